-- The calls that were made with a pass of a table (this project).
use Rattle.std.specs.Prelude.{◌≡◌, ℕ, List, ◌++◌, map, filter, nat_eq}
use Rattle.turn_cell.specs.Histories.{entry, IsPrefix}
use Rattle.cha_fact.specs.declared.key.Key.{Key}
use Rattle.cha_fact.specs.declared.calls.FactCall.{FactCall}
use Rattle.cha_fact.specs.declared.calls.FactCall.TheVariants.{Probe as Asked, Store}
use Rattle.cha_fact.specs.Entries.{Entry}
use Rattle.shard_table.specs.Live.{History}
use Rattle.shard_table.specs.ShardRows.{row_key}
use Rattle.shard_table.specs.Tables.{ShardPass, pass_at, shard_number}
use Rattle.shard_table.specs.declared.table.TablePass.{TablePass}

-- the key that a call asks for or stores under
abbrev pub call_key : FactCall → Key
call_key (Asked key) = key
call_key (Store row) = row_key row

-- those of the entries whose keys are of shard k, as the pass with this number enters them there
abbrev pub entered_at : ℕ → ℕ → List Entry → History
entered_at k number entries = map (λ e. entry number e.call e.reply) (filter (λ e. nat_eq (shard_number (call_key e.call)) k) entries)

-- of these entries the pass of shard k made those of that shard, and no others
pub record MakesAt (k : ℕ) (old : ShardPass) (entries : List Entry) (new : ShardPass) : Type 0 where
  pub mine : new.mine ≡ old.mine ++ entered_at k old.number entries
  pub known_before : IsPrefix old.seen new.seen
  pub same : (new.number ≡ old.number) × (new.splits ≡ old.splits) × (new.joins ≡ old.joins)

-- from one state of a pass to a later one just these entries were made with it, each at the shard of its key
unfoldable pub Makes : TablePass → List Entry → TablePass → Type 0
Makes old entries new = (k : ℕ) → MakesAt k (pass_at old k) entries (pass_at new k)
