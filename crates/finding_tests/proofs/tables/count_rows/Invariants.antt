use Rattle.std.proofs.Common.{◌≤◌}
use Rattle.finding_tests.proofs.tables.count_rows.Given as goal

abbrev pub invariant-loop-number : goal.invariant-loop-number
invariant-loop-number l = record {
  stand : l.tried.stand ≤ l.number;
  found : l.tried.found ≤ l.number;
}
