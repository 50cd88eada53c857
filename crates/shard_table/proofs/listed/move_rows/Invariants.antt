use Rattle.std.proofs.Common.{◌≡◌, ◌≤◌, ◌+◌, ◌++◌, length}
use Rattle.std.specs.Vec.{vec_capacity}
use Rattle.shard_table.specs.ShardRows.{rows_of}
use Rattle.shard_table.proofs.listed.move_rows.Given as goal

abbrev pub invariant-loop-row : goal.invariant-loop-row
invariant-loop-row l = record {
  moved : l.rows.items ++ rows_of l.cache.entries ≡ rows_of l.fn.cache.entries;
  most : l.cache.cap ≡ l.fn.cache.cap;
  few : length l.rows.items + length l.cache.entries ≤ l.fn.cache.cap;
  room : vec_capacity l.fn.rows ≤ vec_capacity l.rows;
}

abbrev pub decreases-loop-row : goal.decreases-loop-row
decreases-loop-row l = length l.cache.entries
