use Rattle.std.proofs.Common.{arith}
use Rattle.std.proofs.lemmas.Nat.{or_lt}
use Rattle.cha_board.proofs.SetBits.{shown_with}
use Rattle.cha_board.proofs.sets.SquareSet.with.Goals as goal

pub invariant_of-result : goal.invariant_of-result
invariant_of-result c = or_lt 64 _ _ c.self.invariant (omega arith)

pub returns : goal.returns
returns c = rw (← c.self.view_is, ← c.index.ensures.value) (shown_with c.self.inside.bits c.index.result c.index.ensures.bound)
