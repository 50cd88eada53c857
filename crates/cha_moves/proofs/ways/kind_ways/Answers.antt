use Rattle.std.proofs.Common.{◌≡◌, false, sym, ap, ◌∙◌}
use Rattle.std.proofs.lemmas.Bool.{false_from_ne_true}
use Rattle.cha_board.specs.declared.men.Kind.TheVariants.{Pawn, King}
use Rattle.cha_board.specs.Men.{same_kind}
use Rattle.cha_board.specs.SquareSets.{set_of}
use Rattle.cha_moves.specs.Moves.{goes}
use Rattle.cha_board.proofs.Identity.{same_kind_equal}
use Rattle.cha_moves.proofs.Pushes.{pawn_goes_to, others_go}
use Rattle.cha_moves.proofs.ways.kind_ways.Goals as goal

pub returns-in-Pawn : goal.returns-in-Pawn
returns-in-Pawn c =
    let q = c.args.position.now in
    c.joined.ensures ∙ rw (c.pawn_steps.ensures, c.pawn_captures.ensures) (pawn_goes_to q c.args.s) ∙ ap (λ k. set_of (goes q k c.args.s)) (sym c.in-Pawn.is)

pub returns-in_default : goal.returns-in_default
returns-in_default c =
    let q = c.args.position.now in
    let k = c.args.kind in
    let no_pawn : same_kind k Pawn ≡ false = false_from_ne_true (same_kind k Pawn) (λ h. c.in_default.not-Pawn (same_kind_equal k Pawn h)) in
    let no_king : same_kind k King ≡ false = false_from_ne_true (same_kind k King) (λ h. c.in_default.not-King (same_kind_equal k King h)) in
    c.aims.ensures ∙ rw (c.requires, c.occupied.ensures) (others_go q k c.args.s no_pawn no_king)
