use Rattle.std.proofs.Common.{◌<◌, sym, ◌∙◌, arith}
use Rattle.std.proofs.lemmas.Bool.{both_ways}
use Rattle.cha_board.specs.SquareSets.{has_no_square}
use Rattle.cha_board.proofs.SetLaws.{squares_from_first}
use Rattle.cha_moves.proofs.Facing.{one_alone}
use Rattle.cha_moves.proofs.shields.lone.Goals as goal

pub returns-else-is_empty : goal.returns-else-is_empty
returns-else-is_empty c = λ s here alone.
    let small : c.in-Some.first < 64 = omega arith in
    let next = squares_from_first c.args.set c.in-Some.first (sym c.first.ensures ∙ c.in-Some.is) in
    absurd (both_ways (has_no_square c.without.result) (sym c.is_empty.ensures ∙ c.if-is_empty.false) (one_alone c.args.set c.without.result c.in-Some.first s _ next c.without.ensures alone small))
