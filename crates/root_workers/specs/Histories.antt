-- What a crew of threads has seen, as one history at each shard (this project).
use Rattle.std.specs.Prelude.{◌≡◌, ℕ, ◌+◌, ◌<◌, List, length, slice_index_or}
use Rattle.turn_cell.specs.Histories.{entries_of, IsPrefix, IsLegalHistory}
use Rattle.cha_fact.specs.Entries.{Entry}
use Rattle.shard_table.specs.ShardRows.{Rows}
use Rattle.shard_table.specs.Shards.{ShardStep, empty}
use Rattle.shard_table.specs.Makes.{entered_at}
use Rattle.shard_table.specs.Tables.{ShardPass, pass_at, mine_at, splits_of, joins_of, KnowsWell, AreReplays}
use Rattle.shard_table.specs.declared.table.Table.{Table}
use Rattle.shard_table.specs.declared.table.TablePass.{TablePass}
use Rattle.root_workers.specs.declared.work.Worker.{Worker}

-- What one pass has seen at a shard is the beginning of what another one knows there, and the entries there under its number are those that it made.
pub record IsFront (own whole : ShardPass) : Type 0 where
  pub seen : IsPrefix own.seen whole.seen
  pub mine : entries_of own.number whole.seen ≡ own.mine

-- At each shard the first pass knows one history, of which all has been seen by it before and by each worker is the beginning.
pub record IsOneHistory (before : TablePass) (crew : List Worker) (after : TablePass) : Type 0 where
  pub first : (k : ℕ) → k < 8 → IsFront (pass_at before k) (pass_at after k)
  pub each : (i : ℕ) (d : Worker) → i < length crew → (k : ℕ) → k < 8 → IsFront (pass_at (slice_index_or crew i d).pass k) (pass_at after k)
  pub mine : (k : ℕ) → k < 8 → mine_at after k ≡ mine_at before k
  pub splits : splits_of after ≡ splits_of before
  pub joins : joins_of after ≡ joins_of before + length crew

-- The end of a table and its crew: each shard is what the calls of one legal history leave, of which all has been seen by the first pass
-- and by each worker is the beginning.
pub record EndsAsOne (table : Table) (before : TablePass) (crew : List Worker) (shards : List Rows) : Type 0 where
  pub after : TablePass
  pub history : IsOneHistory before crew after
  pub knows : KnowsWell table after
  pub count : length shards ≡ 8
  pub replays : AreReplays table.entries after shards

-- One worker's part in a run: its calls in order, and what it knows of each shard at the end. Its entries there are its calls on keys of
-- that shard, each once and in its order, and what it saw there is the beginning of the history.
pub record TookPart (whole : ℕ → ShardPass) : Type 0 where
  pub calls : List Entry
  pub own : ℕ → ShardPass
  pub mine : (k : ℕ) → k < 8 → (own k).mine ≡ entered_at k (own k).number calls
  pub front : (k : ℕ) → k < 8 → IsFront (own k) (whole k)

-- What so many workers did in a run at eight shards of so many rows: the calls at each shard are one legal history, in which each
-- worker took part. Where no position reached the rounds all of it is empty.
pub record DidAsOne (count entries : ℕ) : Type 0 where
  pub whole : ℕ → ShardPass
  pub parts : (i : ℕ) → i < count → TookPart whole
  pub legal : (k : ℕ) → k < 8 → (last : Rows) × IsLegalHistory ShardStep (empty entries) (whole k).seen last
