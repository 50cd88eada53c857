use Rattle.std.proofs.Common.{◌≡◌, ◌≤◌, ◌+◌, length}
use Rattle.std.specs.Vec.{vec_capacity}
use Rattle.shard_table.specs.Tables.{IsOfTable, IsFirstPass, splits_of}
use Rattle.root_workers.specs.Splits.{OnlySplits, AreFresh}
use Rattle.root_workers.proofs.Crewing.{AreWorkers}
use Rattle.root_workers.proofs.many.crew.Given as goal

abbrev pub invariant-loop-number : goal.invariant-loop-number
invariant-loop-number l = record {
  of : IsOfTable l.table l.pass;
  first : IsFirstPass l.pass;
  splits : splits_of l.pass ≡ splits_of l.fn.pass + l.number;
  workers : AreWorkers l.table l.crew.items;
  count : length l.crew.items ≡ l.number;
  room : l.count ≤ vec_capacity l.crew;
  only : OnlySplits l.fn.pass l.pass;
  fresh : AreFresh l.fn.pass l.crew.items;
}
