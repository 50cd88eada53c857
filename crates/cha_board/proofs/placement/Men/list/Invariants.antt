use Rattle.cha_board.proofs.Tidiness.{Filled}
use Rattle.cha_board.proofs.placement.Men.list.Given as goal

abbrev pub invariant-loop-index : goal.invariant-loop-index
invariant-loop-index l = Filled l.list l.self l.index
