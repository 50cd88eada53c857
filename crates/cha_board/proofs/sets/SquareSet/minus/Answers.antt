use Rattle.cha_board.proofs.SetBits.{shown_minus}
use Rattle.cha_board.proofs.sets.SquareSet.minus.Goals as goal

pub returns : goal.returns
returns c = rw (← c.self.view_is, ← c.other.view_is) (shown_minus c.self.inside.bits c.other.inside.bits c.other.invariant)
