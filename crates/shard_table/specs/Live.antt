-- Rows that stay, and replies that are true (this project).
use Rattle.std.specs.Prelude.{◌≡◌, ℕ, ◌<◌, ◌≤◌, ⊤, List, slice_get, Some}
use Rattle.turn_cell.specs.declared.object.Entry.{Entry}
use Rattle.cha_board.specs.declared.men.Color.{Color}
use Rattle.cha_board.specs.Board.{Board}
use Rattle.cha_fact.specs.declared.key.Key.{Key}
use Rattle.cha_fact.specs.declared.calls.Probe.{Probe}
use Rattle.cha_fact.specs.declared.calls.Probe.TheVariants.{Found, Miss, Refused}
use Rattle.cha_fact.specs.declared.calls.Stored.TheVariants.{Added, Evicted, Better, Kept, Dropped}
use Rattle.cha_fact.specs.declared.calls.FactCall.{FactCall}
use Rattle.cha_fact.specs.declared.calls.FactCall.TheVariants.{Store}
use Rattle.cha_fact.specs.declared.calls.FactReply.{FactReply}
use Rattle.cha_fact.specs.declared.calls.FactReply.TheVariants.{Probed, Stored as StoredAs}
use Rattle.cha_fact.specs.Truths.{Claim, IsTrueOf, rank_of}
use Rattle.shard_table.specs.ShardRows.{row_key}

-- the calls at one shard, in their order, each with the number of the pass that made it
abbrev pub History : Type 0
History = List (Entry FactCall FactReply)

-- the replies after which the key has a row that says no less than the one that was given
abbrev pub IsKeptBy : FactReply → Type 0
IsKeptBy (StoredAs Added) = ⊤
IsKeptBy (StoredAs (Evicted key)) = ⊤
IsKeptBy (StoredAs Better) = ⊤
IsKeptBy (StoredAs Kept) = ⊤
IsKeptBy (StoredAs Dropped) = ⊥
IsKeptBy (Probed reply) = ⊥

-- entry i of a history stored this row, and no later entry says that a row of its key was evicted
abbrev pub IsLive : History → ℕ → Claim → Type 0
IsLive history i row =
    (e : Entry FactCall FactReply) × (slice_get history i ≡ Some e) × (e.call ≡ Store row) × IsKeptBy e.reply
    × ((j : ℕ) (later : Entry FactCall FactReply) → i < j → slice_get history j ≡ Some later → later.reply ≡ StoredAs (Evicted (row_key row)) → ⊥)

-- a row of the key was found that says at least so much, or memory for a copy of it was refused
abbrev pub FindsAtLeast : Key → ℕ → Probe → Type 0
FindsAtLeast key least (Found row) = (row_key row ≡ key) × (least ≤ rank_of row.fact)
FindsAtLeast key least Miss = ⊥
FindsAtLeast key least Refused = ⊤

-- what was found is true of a position and a side
abbrev pub IsTrueReply : Board → Color → Probe → Type 0
IsTrueReply q winner (Found row) = IsTrueOf q winner row.fact
IsTrueReply q winner Miss = ⊤
IsTrueReply q winner Refused = ⊤
