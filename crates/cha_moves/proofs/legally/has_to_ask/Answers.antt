use Rattle.std.proofs.Common.{◌≡◌, false, sym, ap, ◌∙◌}
use Rattle.std.proofs.lemmas.Bool.{and_left, false_from_ne_true, OnFalse_from}
use Rattle.cha_board.specs.declared.men.Kind.TheVariants.{Pawn, King}
use Rattle.cha_board.specs.Men.{same_color, same_kind, is_man}
use Rattle.cha_board.specs.Board.{man_at}
use Rattle.cha_moves.specs.Moves.{is_en_passant}
use Rattle.cha_moves.specs.Shields.{IsFree}
use Rattle.cha_board.proofs.Identity.{same_kind_equal, two_kinds}
use Rattle.cha_moves.proofs.legally.has_to_ask.Goals as goal

pub returns-in_default : goal.returns-in_default
returns-in_default c =
    let q = c.args.position.now in
    let s = c.args.from in
    let man = c.args.man in
    let no_king = false_from_ne_true (same_kind man.kind King) (λ h. c.in_default.not-King (same_kind_equal man.kind King h)) in
    let no_pawn = false_from_ne_true (same_kind man.kind Pawn) (λ h. c.in_default.not-Pawn (same_kind_equal man.kind Pawn h)) in
    let other : is_man q.side King (man_at q.men s) ≡ false = ap (is_man q.side King) c.requires.man ∙ two_kinds (same_color man.color q.side) (same_kind man.kind King) no_king in
    let piece : is_man q.side Pawn (man_at q.men s) ≡ false = ap (is_man q.side Pawn) c.requires.man ∙ two_kinds (same_color man.color q.side) (same_kind man.kind Pawn) no_pawn in
    OnFalse_from c.has-in_default.result (IsFree q c.args.shields.now.screens s) (λ h.
    record {
      no_king = other;
      no_passing = λ t. and_left (is_man q.side Pawn (man_at q.men s)) (is_en_passant q s t) piece;
      no_screen = sym c.has-in_default.ensures ∙ h;
    })
