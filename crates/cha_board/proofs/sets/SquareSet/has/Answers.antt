use Rattle.cha_board.proofs.SetBits.{shown_has}
use Rattle.cha_board.proofs.sets.SquareSet.has.Goals as goal

pub returns : goal.returns
returns c = rw (← c.self.view_is, ← c.index.ensures.value) (shown_has c.self.inside.bits c.index.result c.index.ensures.bound)
