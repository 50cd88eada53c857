use Rattle.std.proofs.Common.{ℕ, ◌==◌, ap, sym, ◌∙◌, List, Bool}
use Rattle.cha_board.specs.Squares.{rank_of}
use Rattle.cha_board.proofs.SetLaws.{has-set_of}
use Rattle.cha_board.specs.SquareSets.{has_square}
use Rattle.cha_board.proofs.Contents.{in_empty}
use Rattle.mob_check.proofs.Going.{pawn_changes, piece_stays_on}
use Rattle.mob_check.proofs.ranks.changing.Goals as goal

pub returns-then-is : goal.returns-then-is
returns-then-is c =
    pawn_changes c.args.side c.args.kind c.of_rank.result (sym c.is.ensures ∙ c.if-is.true) (λ t small.
    ap (λ (s : List Bool). has_square s t) c.of_rank.ensures ∙ has-set_of (λ (u : ℕ). rank_of u == c.promotion_rank.result) t small
    ∙ ap (λ (r : ℕ). rank_of t == r) c.promotion_rank.ensures)

pub returns-else-is : goal.returns-else-is
returns-else-is c = piece_stays_on c.args.side c.args.kind c.empty.result (sym c.is.ensures ∙ c.if-is.false) (λ t. ap (λ (s : List Bool). has_square s t) c.empty.ensures ∙ in_empty t)
