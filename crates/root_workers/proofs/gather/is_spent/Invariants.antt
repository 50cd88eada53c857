use Rattle.root_workers.proofs.Gathering.{HaveLeft}
use Rattle.root_workers.proofs.gather.is_spent.Given as goal

abbrev pub invariant-loop-number : goal.invariant-loop-number
invariant-loop-number g l = HaveLeft (g.C.Crew.leaves l.crew) l.number
