-- What passes know as a crew is made (this project).
use Rattle.std.specs.Prelude.{◌≡◌, ℕ, ◌<◌, List, [], length, slice_index_or}
use Rattle.shard_table.specs.Tables.{seen_at, mine_at, joins_of}
use Rattle.shard_table.specs.declared.table.TablePass.{TablePass}
use Rattle.root_workers.specs.declared.work.Worker.{Worker}

-- Nothing came to what the pass knows and has made, and it took no pass back.
pub record OnlySplits (old new : TablePass) : Type 0 where
  pub seen : (k : ℕ) → k < 8 → seen_at new k ≡ seen_at old k
  pub mine : (k : ℕ) → k < 8 → mine_at new k ≡ mine_at old k
  pub joins : joins_of new ≡ joins_of old

-- A pass that knows what another knew, and has made no call.
pub record IsFresh (first own : TablePass) : Type 0 where
  pub seen : (k : ℕ) → k < 8 → seen_at own k ≡ seen_at first k
  pub mine : (k : ℕ) → k < 8 → mine_at own k ≡ []

-- the pass of each worker is one
abbrev pub AreFresh : TablePass → List Worker → Type 0
AreFresh first crew = (i : ℕ) (d : Worker) → i < length crew → IsFresh first (slice_index_or crew i d).pass
