use Rattle.cha_board.proofs.Firsts.{counted}
use Rattle.cha_board.proofs.sets.SquareSet.len.Goals as goal

pub returns-clause-value : goal.returns-clause-value
returns-clause-value c = rw (← c.self.view_is) (counted c.self.inside.bits c.self.invariant)
