use Rattle.root_workers.specs.Gathers.{AreWhole}
use Rattle.root_workers.proofs.gather.are_whole.Given as goal

abbrev pub invariant-loop-number : goal.invariant-loop-number
invariant-loop-number g l = AreWhole (g.C.Crew.leaves l.crew) l.number
