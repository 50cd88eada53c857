use Rattle.cha_board.proofs.SetBits.{shown_within}
use Rattle.cha_board.proofs.sets.SquareSet.within.Goals as goal

pub returns : goal.returns
returns c = rw (← c.self.view_is, ← c.other.view_is) (shown_within c.self.inside.bits c.other.inside.bits c.self.invariant c.other.invariant)
