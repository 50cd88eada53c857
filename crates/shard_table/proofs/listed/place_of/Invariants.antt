use Rattle.std.proofs.Common.{◌≡◌, None, take}
use Rattle.shard_table.specs.Shards.{find_row}
use Rattle.shard_table.proofs.listed.place_of.Given as goal

abbrev pub invariant-loop-place : goal.invariant-loop-place
invariant-loop-place l = find_row l.key (take l.place l.rows) ≡ None
