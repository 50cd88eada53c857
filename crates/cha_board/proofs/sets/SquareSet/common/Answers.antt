use Rattle.cha_board.proofs.SetBits.{shown_common}
use Rattle.cha_board.proofs.sets.SquareSet.common.Goals as goal

pub returns : goal.returns
returns c = rw (← c.self.view_is, ← c.other.view_is) (shown_common c.self.inside.bits c.other.inside.bits)
