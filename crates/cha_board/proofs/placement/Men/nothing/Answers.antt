use Rattle.std.proofs.Common.{◌≡◌, replicate, None, ◌∙◌}
use Rattle.cha_board.specs.MenSets.{sets_of}
use Rattle.cha_board.specs.declared.placement.Men.TheInside.{Inside}
use Rattle.cha_board.proofs.Tidiness.{sets_are_tidy, sets_show, sets_of_none, length_of_none, empty_all, same_inside}
use Rattle.cha_board.proofs.placement.Men.nothing.Goals as goal
use Rattle.cha_board.proofs.placement.Men.nothing.Goals.{After-empty-8}

abbrev made : After-empty-8 → Inside
made c = record {
  white = c.empty.result;
  black = c.empty-2.result;
  pawns = c.empty-3.result;
  knights = c.empty-4.result;
  bishops = c.empty-5.result;
  rooks = c.empty-6.result;
  queens = c.empty-7.result;
  kings = c.empty-8.result;
}

new : (c : After-empty-8) → made c ≡ sets_of (replicate 64 None)
new c =
    same_inside (made c) empty_all c.empty.ensures c.empty-2.ensures c.empty-3.ensures c.empty-4.ensures c.empty-5.ensures c.empty-6.ensures c.empty-7.ensures c.empty-8.ensures ∙ sets_of_none

pub invariant_of-result : goal.invariant_of-result
invariant_of-result c = sets_are_tidy (made c) (replicate 64 None) (length_of_none None) (new c)

pub returns : goal.returns
returns c = sets_show (made c) (replicate 64 None) (length_of_none None) (new c)
