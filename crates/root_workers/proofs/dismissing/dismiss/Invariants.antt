use Rattle.std.proofs.Common.{length}
use Rattle.shard_table.specs.Tables.{IsOfTable, IsFirstPass}
use Rattle.root_workers.proofs.PassesTaken.{Dismissed}
use Rattle.root_workers.proofs.dismissing.dismiss.Given as goal

abbrev pub invariant-loop-worker : goal.invariant-loop-worker
invariant-loop-worker l = record {
  of : IsOfTable l.table l.pass;
  first : IsFirstPass l.pass;
  dismissed : Dismissed l.fn.pass l.fn.crew.items l.left.items l.pass;
}

abbrev pub decreases-loop-worker : goal.decreases-loop-worker
decreases-loop-worker l = length l.left.items
