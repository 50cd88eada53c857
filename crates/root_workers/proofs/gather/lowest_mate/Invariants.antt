use Rattle.root_workers.specs.Gathers.{IsRootMateOr}
use Rattle.root_workers.proofs.Gathering.{IsLowestOf}
use Rattle.root_workers.proofs.gather.lowest_mate.Given as goal

abbrev pub invariant-loop-number : goal.invariant-loop-number
invariant-loop-number g l = record {
  holds : IsRootMateOr l.task l.moves l.best;
  lowest : IsLowestOf (g.C.Crew.leaves l.crew) l.number l.best;
}
