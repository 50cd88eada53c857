use Rattle.std.proofs.Common.{◌≤◌}
use Rattle.root_workers.specs.Helps.{MakesCalls}
use Rattle.root_workers.proofs.helping.Helper.+helping.Given as goal

abbrev pub decreases-help_below : goal.decreases-help_below
decreases-help_below g l = l.depth

abbrev pub invariant-loop : goal.invariant-loop
invariant-loop g l = record {
  ready : g.F.Facts.ready l.facts;
  calls : MakesCalls g.F.Facts.made l.fn.facts l.facts;
  less : l.left ≤ l.fn.left;
}
