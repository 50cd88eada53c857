use Rattle.cha_board.proofs.Tidiness.{Filled}
use Rattle.cha_board.proofs.placement.Men.of_list.Given as goal

abbrev pub invariant-loop-index : goal.invariant-loop-index
invariant-loop-index l = Filled l.men l.list l.index
