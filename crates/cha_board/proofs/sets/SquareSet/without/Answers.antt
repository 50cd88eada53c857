use Rattle.cha_board.proofs.SetBits.{shown_without}
use Rattle.cha_board.proofs.sets.SquareSet.without.Goals as goal

pub returns : goal.returns
returns c = rw (← c.self.view_is, ← c.index.ensures.value) (shown_without c.self.inside.bits c.index.result c.index.ensures.bound)
