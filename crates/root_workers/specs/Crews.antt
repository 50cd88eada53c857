-- Workers with a pass each at one table (this project).
use Rattle.std.specs.Prelude.{◌≡◌, ℕ, ◌<◌, ◌≤◌, List, length, slice_index_or}
use Rattle.cha_moves.specs.Step.{Move}
use Rattle.cha_fact.specs.Entries.{Entry}
use Rattle.shard_table.specs.Makes.{Makes}
use Rattle.shard_table.specs.Tables.{IsOfTable, KnowsWell}
use Rattle.shard_table.specs.declared.table.Table.{Table}
use Rattle.root_workers.specs.declared.task.RoundTask.{RoundTask}
use Rattle.root_workers.specs.declared.work.Work.{Work}
use Rattle.root_workers.specs.declared.work.Worker.{Worker}
use Rattle.root_workers.specs.Shares.{IsShare, ShareCalls}

-- Workers 0, 1 and so on, at least 1 and at most 16, with passes of a table.
pub record IsCrew (table : Table) (crew : List Worker) : Type 0 where
  pub some : 0 < length crew
  pub few : length crew ≤ 16
  pub number : (i : ℕ) (d : Worker) → i < length crew → (slice_index_or crew i d).number ≡ i
  pub of : (i : ℕ) (d : Worker) → i < length crew → IsOfTable table (slice_index_or crew i d).pass

-- what the pass of each worker has seen at each shard is one legal history
unfoldable pub AllKnowWell : Table → List Worker → Type 0
AllKnowWell table crew = (i : ℕ) (d : Worker) → i < length crew → KnowsWell table (slice_index_or crew i d).pass

-- From one state of a crew to a later one worker i made just these entries, and each worker some.
pub record CrewMakes (i : ℕ) (old : List Worker) (entries : List Entry) (new : List Worker) : Type 0 where
  pub own : (d : Worker) → i < length old → Makes (slice_index_or old i d).pass entries (slice_index_or new i d).pass
  pub each : (j : ℕ) (d : Worker) → j < length old → (more : List Entry) × Makes (slice_index_or old j d).pass more (slice_index_or new j d).pass
  pub same : length new ≡ length old

-- worker i left this work
unfoldable pub LeavesWork : List Worker → ℕ → Work → Type 0
LeavesWork crew i work = (d : Worker) → i < length crew → work ≡ (slice_index_or crew i d).work

-- One worker's part of a round was done.
pub record WorkerDone (table : Table) (task : RoundTask) (moves : List Move) (count : ℕ) (old new : Worker) : Type 0 where
  pub number : new.number ≡ old.number
  pub of : IsOfTable table new.pass
  pub share : IsShare task moves old.number count new.work
  pub calls : ShareCalls Makes old.pass new.pass task moves old.number count new.work
