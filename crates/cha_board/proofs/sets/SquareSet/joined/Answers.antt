use Rattle.std.proofs.lemmas.Nat.{or_lt}
use Rattle.cha_board.proofs.SetBits.{shown_joined}
use Rattle.cha_board.proofs.sets.SquareSet.joined.Goals as goal

pub invariant_of-result : goal.invariant_of-result
invariant_of-result c = or_lt 64 _ _ c.self.invariant c.other.invariant

pub returns : goal.returns
returns c = rw (← c.self.view_is, ← c.other.view_is) (shown_joined c.self.inside.bits c.other.inside.bits)
