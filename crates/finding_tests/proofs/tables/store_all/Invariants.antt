use Rattle.std.proofs.Common.{◌≤◌, ◌-◌}
use Rattle.shard_table.specs.Tables.{IsOfTable, StaysFirst}
use Rattle.finding_tests.proofs.tables.store_all.Given as goal

abbrev pub invariant-loop-number : goal.invariant-loop-number
invariant-loop-number g l = record {
  of : IsOfTable l.table l.pass;
  first : StaysFirst l.fn.pass l.pass;
  stand : l.tried.stand ≤ l.number - l.from;
  found : l.tried.found ≤ l.number - l.from;
}
