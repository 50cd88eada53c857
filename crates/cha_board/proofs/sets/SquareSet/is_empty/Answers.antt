use Rattle.cha_board.proofs.Firsts.{shown_none}
use Rattle.cha_board.proofs.sets.SquareSet.is_empty.Goals as goal

pub returns : goal.returns
returns c = rw (← c.self.view_is) (shown_none c.self.inside.bits c.self.invariant)
