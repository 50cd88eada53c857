-- The table of eight shards, and a pass of each (this project).
use Rattle.std.specs.Prelude.{◌≡◌, ◌≢◌, ℕ, zero, suc, ◌+◌, ◌<◌, ◌%◌, List, [], ◌∷◌, ◌++◌, map, sum, slice_get, Some, None}
use Rattle.turn_cell.specs.declared.object.Object.{Ghosts}
use Rattle.turn_cell.specs.declared.object.Entry.{Entry}
use Rattle.turn_cell.specs.declared.object.TakenBack.{TakenBack}
use Rattle.turn_cell.specs.declared.cells.Pass.{Pass}
use Rattle.turn_cell.specs.Histories.{IsLegalHistory, IsWellKnown, taken_back, AreTheirs}
use Rattle.turn_cell.specs.Passes.{Known, known, taken, IsOf, Turned, SplitOff, Joined}
use Rattle.cha_board.specs.Packing.{color_code}
use Rattle.cha_fact.specs.declared.key.Key.{Key}
use Rattle.cha_fact.specs.declared.calls.Probe.{Probe}
use Rattle.cha_fact.specs.declared.calls.Probe.TheVariants.{Found, Miss, Refused}
use Rattle.cha_fact.specs.declared.calls.Stored.{Stored}
use Rattle.cha_fact.specs.declared.calls.FactCall.{FactCall}
use Rattle.cha_fact.specs.declared.calls.FactReply.{FactReply}
use Rattle.cha_fact.specs.Truths.{Claim}
use Rattle.shard_table.specs.ShardRows.{Rows, row_key}
use Rattle.shard_table.specs.Shards.{find_row, HasMate, Stores, ShardStep, empty}
use Rattle.shard_table.specs.Live.{History}
use Rattle.shard_table.specs.declared.table.Table.{Table}
use Rattle.shard_table.specs.declared.table.TablePass.{TablePass}

-- the number of a key's shard: the sum of the remainders of its words by 1,021, and one more for Black, by 8
abbrev pub shard_number : Key → ℕ
shard_number key = (sum (map (λ word. word % 1021) key.packed.words) + color_code key.winner) % 8

-- what contracts see of a pass of one shard
abbrev pub ShardPass : Type 0
ShardPass = Known FactCall FactReply

module _ {G : Ghosts Rows FactCall FactReply} where
  -- the pass at a place of a list; behind the end, one that has seen and done nothing
  abbrev pub pass_or : List (Pass Rows FactCall FactReply G) → ℕ → ShardPass
  pass_or [] k = record { number = 0; seen = []; mine = []; splits = 0; joins = 0 }
  pass_or (p ∷ ps) zero = known p
  pass_or (p ∷ ps) (suc k) = pass_or ps k

  -- the passes that the one at a place of a list took back
  abbrev pub taken_or : List (Pass Rows FactCall FactReply G) → ℕ → List (TakenBack FactCall FactReply)
  taken_or [] k = []
  taken_or (p ∷ ps) zero = taken p
  taken_or (p ∷ ps) (suc k) = taken_or ps k

-- the pass of shard k
abbrev pub pass_at : TablePass → ℕ → ShardPass
pass_at pass k = pass_or pass.passes k

-- the part of the history of shard k that the pass knows
abbrev pub seen_at : TablePass → ℕ → History
seen_at pass k = (pass_at pass k).seen

-- its own entries there
abbrev pub mine_at : TablePass → ℕ → History
mine_at pass k = (pass_at pass k).mine

-- the passes of shard k that it took back, the last one first
abbrev pub taken_at : TablePass → ℕ → List (TakenBack FactCall FactReply)
taken_at pass k = taken_or pass.passes k

-- each of the eight passes is of the table's cell at its place
unfoldable pub IsOfTable : Table → TablePass → Type 0
IsOfTable table pass = (k : ℕ) (cell : _) (p : _) → slice_get table.cells k ≡ Some cell → slice_get pass.passes k ≡ Some p → IsOf cell p

-- what the pass has seen at each shard is one legal history from the empty shard, and the entries there under its number are
-- those that it made
unfoldable pub KnowsWell : Table → TablePass → Type 0
KnowsWell table pass = (k : ℕ) → k < 8 → IsWellKnown ShardStep (empty table.entries) (pass_at pass k).number (seen_at pass k) (mine_at pass k)

-- one call was made at shard k
abbrev pub TakesTurn : ℕ → Table → TablePass → FactCall → FactReply → TablePass → Type 0
TakesTurn k table old call reply new = Turned ShardStep (empty table.entries) (pass_at old k) call reply (pass_at new k)

-- at all shards but shard k the pass is as it was
abbrev pub OthersStay : ℕ → TablePass → TablePass → Type 0
OthersStay k old new = (j : ℕ) → j ≢ k → pass_at new j ≡ pass_at old j

-- the row of the key is found, or there is a miss where the key has none, or a refusal where its row is a mate
abbrev pub IsRowOf : Key → List Claim → Probe → Type 0
IsRowOf key rows (Found row) = find_row key rows ≡ Some row
IsRowOf key rows Miss = find_row key rows ≡ None
IsRowOf key rows Refused = HasMate key rows

-- the reply is what the rows give that all entries but the pass's last one leave
abbrev pub FindsExactly : Table → TablePass → Key → Probe → Type 0
FindsExactly table new key reply =
    (before : History) (rows : Rows) (e : Entry FactCall FactReply) → seen_at new (shard_number key) ≡ before ++ e ∷ []
    → IsLegalHistory ShardStep (empty table.entries) before rows → IsRowOf key rows.rows reply

-- the reply to a store is one that those rows give
abbrev pub StoresExactly : Table → TablePass → Claim → Stored → Type 0
StoresExactly table new row reply =
    (before : History) (rows : Rows) (e : Entry FactCall FactReply) → seen_at new (shard_number (row_key row)) ≡ before ++ e ∷ []
    → IsLegalHistory ShardStep (empty table.entries) before rows → (after : List Claim) × Stores table.entries row rows.rows reply after

-- how many passes were split off a table's first pass
abbrev pub splits_of : TablePass → ℕ
splits_of pass = (pass_at pass 0).splits

-- how many of them it took back
abbrev pub joins_of : TablePass → ℕ
joins_of pass = (pass_at pass 0).joins

-- the pass of one shard is its first, with these counts
abbrev pub IsFirstWith : ℕ → ℕ → ShardPass → Type 0
IsFirstWith splits joins p = (p.number ≡ 0) × (p.splits ≡ splits) × (p.joins ≡ joins)

-- it is the pass that the table was made with; its eight have equal counts
unfoldable pub IsFirstPass : TablePass → Type 0
IsFirstPass pass = (k : ℕ) → k < 8 → IsFirstWith (splits_of pass) (joins_of pass) (pass_at pass k)

-- where it was a table's first pass it still is, with the same counts
abbrev pub StaysFirst : TablePass → TablePass → Type 0
StaysFirst old new = IsFirstPass old → IsFirstPass new × (splits_of new ≡ splits_of old) × (joins_of new ≡ joins_of old)

-- nothing was asked or stored yet
abbrev pub IsNewPass : TablePass → Type 0
IsNewPass pass = (k : ℕ) → k < 8 → (seen_at pass k ≡ []) × (mine_at pass k ≡ [])

-- a new pass of each shard was split off
abbrev pub SplitsAll : TablePass → TablePass → TablePass → Type 0
SplitsAll old new other = (k : ℕ) → k < 8 → SplitOff (pass_at old k) (pass_at new k) (pass_at other k)

-- another pass was taken back at each shard
abbrev pub JoinsAll : TablePass → TablePass → TablePass → Type 0
JoinsAll old other new = (k : ℕ) → k < 8 → Joined (pass_at old k) (pass_at other k) (pass_at new k)

-- it comes to those that were taken back before at each shard, and the entries of each of them there are its own
abbrev pub TakesAll : TablePass → TablePass → TablePass → Type 0
TakesAll old other new = (k : ℕ) → k < 8 → (taken_at new k ≡ taken_back (pass_at other k).number (mine_at other k) ∷ taken_at old k) × AreTheirs (taken_at new k) (seen_at new k)

-- each shard is what the calls leave that the pass has seen there
abbrev pub AreReplays : ℕ → TablePass → List Rows → Type 0
AreReplays entries pass shards = (k : ℕ) (shard : Rows) → slice_get shards k ≡ Some shard → IsLegalHistory ShardStep (empty entries) (seen_at pass k) shard
