use Rattle.std.proofs.Common.{◌≡◌, false, None, sym, ap, ◌∙◌}
use Rattle.std.proofs.lemmas.Bool.{false_from_ne_true}
use Rattle.cha_board.specs.declared.men.Kind.TheVariants.{Rook, King}
use Rattle.cha_board.specs.declared.position.Rights.{Rights}
use Rattle.cha_board.specs.Men.{same_kind}
use Rattle.cha_board.specs.Board.{man_at}
use Rattle.cha_board.proofs.Identity.{same_kind_equal}
use Rattle.cha_moves.specs.Step.{Move}
use Rattle.cha_moves.specs.Moves.{rights_after}
use Rattle.cha_moves.proofs.Quiet.{rights_alike, rights_unused}
use Rattle.cha_moves.proofs.changes.rights_leaving.Goals as goal

pub returns-in-Rook : goal.returns-in-Rook
returns-in-Rook c = λ m from away.
    let gone : Move = record { from = c.args.from; to = c.args.from; promotion = None } in
    c.rights_made.ensures ∙ ap (λ (r : Rights). rights_after r gone) c.rights.ensures ∙ rights_alike c.args.position.now.rights m gone (sym from) (sym from) away

pub returns-in_default : goal.returns-in_default
returns-in_default c = λ m from away.
    let q = c.args.position.now in
    let k = c.args.man.kind in
    let no_rook : same_kind k Rook ≡ false = false_from_ne_true (same_kind k Rook) (λ h. c.in_default.not-Rook (same_kind_equal k Rook h)) in
    let no_king : same_kind k King ≡ false = false_from_ne_true (same_kind k King) (λ h. c.in_default.not-King (same_kind_equal k King h)) in
    c.rights-in_default.ensures ∙ rights_unused q m c.args.man c.known.ensures (ap (man_at q.men) from ∙ c.requires) no_king no_rook away
