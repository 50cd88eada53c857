use Rattle.std.proofs.Common.{◌≤◌}
use Rattle.root_workers.specs.Helps.{MakesCalls}
use Rattle.root_workers.proofs.helping.Helper.next_open.Given as goal

abbrev pub invariant-loop-index : goal.invariant-loop-index
invariant-loop-index g l = record {
  ready : g.F.Facts.ready l.facts;
  calls : MakesCalls g.F.Facts.made l.fn.facts l.facts;
  few : l.before ≤ l.index;
}
