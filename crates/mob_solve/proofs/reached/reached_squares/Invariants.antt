use Rattle.std.proofs.Common.{ℕ}
use Rattle.mob_solve.specs.Reaching.{sets_in}
use Rattle.mob_check.specs.Grounds.{reaches_from}
use Rattle.mob_check.proofs.Gathering.{Gathers}
use Rattle.mob_solve.proofs.reached.reached_squares.Given as goal

abbrev pub invariant-loop-index : goal.invariant-loop-index
invariant-loop-index l = Gathers (λ (o t : ℕ). reaches_from l.position (sets_in l.reach) l.fn.side t o) l.squares l.index
