use Rattle.std.proofs.Common.{◌≡◌, ℕ, ◌<◌, true, false, List, Bool, sym, ap, ◌∙◌}
use Rattle.std.proofs.lemmas.Bool.{false_from_ne_true}
use Rattle.cha_board.specs.declared.men.Kind.TheVariants.{Pawn, King}
use Rattle.cha_board.specs.Men.{same_kind}
use Rattle.cha_board.specs.SquareSets.{set_of, has_square}
use Rattle.cha_board.proofs.Identity.{same_kind_equal}
use Rattle.cha_moves.specs.Ways.{is_free, is_quiet}
use Rattle.cha_moves.proofs.Facing.{every_square}
use Rattle.cha_moves.proofs.Quiet.{free_squares, quiet_pawn, quiet_king, quiet_other}
use Rattle.cha_moves.proofs.afterwards.quiet_squares.Goals as goal

pub returns-in-Pawn : goal.returns-in-Pawn
returns-in-Pawn c =
    let q = c.args.position.now in
    let every : (t : ℕ) → t < 64 → has_square c.from_bits-all.result t ≡ true = λ t small. ap (λ (x : List Bool). has_square x t) c.from_bits-all.ensures ∙ every_square t small in
    let free : c.minus-free.result ≡ set_of (λ t. is_free q t) = c.minus-free.ensures ∙ rw (c.joined.ensures, c.occupied.ensures, c.homes.ensures) (free_squares q c.from_bits-all.result every) in
    c.minus.ensures ∙ rw (c.common.ensures, free, c.pawn_steps.ensures, c.promoting.ensures, c.requires) (quiet_pawn q c.args.from) ∙ ap (λ k. set_of (is_quiet q k c.args.from)) (sym c.in-Pawn.is)

pub returns-in-King : goal.returns-in-King
returns-in-King c =
    let q = c.args.position.now in
    let every : (t : ℕ) → t < 64 → has_square c.from_bits-all.result t ≡ true = λ t small. ap (λ (x : List Bool). has_square x t) c.from_bits-all.ensures ∙ every_square t small in
    let free : c.minus-free.result ≡ set_of (λ t. is_free q t) = c.minus-free.ensures ∙ rw (c.joined.ensures, c.occupied.ensures, c.homes.ensures) (free_squares q c.from_bits-all.result every) in
    c.common-in-King.ensures ∙ rw (free, c.aims_alone.ensures, c.requires) (quiet_king q c.args.from) ∙ ap (λ k. set_of (is_quiet q k c.args.from)) (sym c.in-King.is)

pub returns-in_default : goal.returns-in_default
returns-in_default c =
    let q = c.args.position.now in
    let k = c.args.kind in
    let every : (t : ℕ) → t < 64 → has_square c.from_bits-all.result t ≡ true = λ t small. ap (λ (x : List Bool). has_square x t) c.from_bits-all.ensures ∙ every_square t small in
    let free : c.minus-free.result ≡ set_of (λ t. is_free q t) = c.minus-free.ensures ∙ rw (c.joined.ensures, c.occupied.ensures, c.homes.ensures) (free_squares q c.from_bits-all.result every) in
    let no_pawn : same_kind k Pawn ≡ false = false_from_ne_true (same_kind k Pawn) (λ h. c.in_default.not-Pawn (same_kind_equal k Pawn h)) in
    let no_king : same_kind k King ≡ false = false_from_ne_true (same_kind k King) (λ h. c.in_default.not-King (same_kind_equal k King h)) in
    free ∙ quiet_other q k c.args.from no_pawn no_king
