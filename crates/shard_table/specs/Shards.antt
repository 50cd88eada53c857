-- The calls of a shard (this project).
use Rattle.std.specs.Prelude.{◌≡◌, ℕ, ◌-◌, ◌<◌, ◌≤◌, Bool, ◌&&◌, ⊤, List, [], ◌∷◌, map, take, length, nat_eq, Option, Some, None, slice_get, if◌then◌else◌, IsTrue}
use Rattle.std.specs.List.{All}
use Rattle.std.specs.Cmp.Lexicographic.{pointwise}
use Rattle.cha_board.specs.Men.{same_color}
use Rattle.cha_fact.specs.declared.key.Key.{Key}
use Rattle.cha_fact.specs.declared.calls.Probe.{Probe}
use Rattle.cha_fact.specs.declared.calls.Probe.TheVariants.{Found, Miss, Refused}
use Rattle.cha_fact.specs.declared.calls.Stored.{Stored}
use Rattle.cha_fact.specs.declared.calls.Stored.TheVariants.{Added, Evicted, Better, Kept, Dropped}
use Rattle.cha_fact.specs.declared.calls.FactCall.{FactCall}
use Rattle.cha_fact.specs.declared.calls.FactCall.TheVariants.{Probe as Asked, Store}
use Rattle.cha_fact.specs.declared.calls.FactReply.{FactReply}
use Rattle.cha_fact.specs.declared.calls.FactReply.TheVariants.{Probed, Stored as StoredAs}
use Rattle.cha_fact.specs.Truths.{Claim, IsTrueOf, is_mate, rank_of}
use Rattle.cha_fact.specs.Entries.{Entry}
use Rattle.shard_table.specs.ShardRows.{Rows, row_key}

-- two keys are one: their words and their sides are
unfoldable pub same_key : Key → Key → Bool
same_key a b = pointwise nat_eq a.packed.words b.packed.words && same_color a.winner b.winner

-- the first row of a key
abbrev pub find_row : Key → List Claim → Option Claim
find_row key [] = None
find_row key (row ∷ rows) = if same_key key (row_key row) then Some row else find_row key rows

-- the rows without the first of a key
abbrev pub without : Key → List Claim → List Claim
without key [] = []
without key (row ∷ rows) = if same_key key (row_key row) then rows else row ∷ without key rows

-- the row of the key is a mate
abbrev pub HasMate : Key → List Claim → Type 0
HasMate key rows = (row : Claim) × (find_row key rows ≡ Some row) × IsTrue (is_mate row.fact)

-- a probe of a key: its row is found and goes to the front, or there is none and nothing changes, or it is a mate, memory for a
-- copy of its line is refused, and nothing changes
abbrev pub Probes : Key → List Claim → Probe → List Claim → Type 0
Probes key old (Found row) new = (find_row key old ≡ Some row) × (new ≡ row ∷ without key old)
Probes key old Miss new = (find_row key old ≡ None) × (new ≡ old)
Probes key old Refused new = HasMate key old × (new ≡ old)

-- a store of a row among at most so many: its key had none and there was room, or the last row goes, or it says more than
-- the row of its key, or no more; none is dropped, since there is room for all rows
abbrev pub Stores : ℕ → Claim → List Claim → Stored → List Claim → Type 0
Stores entries row old Added new = (find_row (row_key row) old ≡ None) × (length old < entries) × (new ≡ row ∷ old)
Stores entries row old (Evicted key) new =
    (find_row (row_key row) old ≡ None) × (length old ≡ entries) × (slice_get (map row_key old) (entries - 1) ≡ Some key)
    × (new ≡ row ∷ take (entries - 1) old)
Stores entries row old Better new =
    (before : Claim) × (find_row (row_key row) old ≡ Some before) × (rank_of before.fact < rank_of row.fact) × (new ≡ row ∷ without (row_key row) old)
Stores entries row old Kept new =
    (before : Claim) × (find_row (row_key row) old ≡ Some before) × (rank_of row.fact ≤ rank_of before.fact) × (new ≡ before ∷ without (row_key row) old)
Stores entries row old Dropped new = ⊥

-- a call, its reply, and the shard before and after it
abbrev pub ShardStep : Rows → FactCall → FactReply → Rows → Type 0
ShardStep old (Asked key) (Probed reply) new = Probes key old.rows reply new.rows × (new.entries ≡ old.entries)
ShardStep old (Store row) (StoredAs reply) new = Stores old.entries row old.rows reply new.rows × (new.entries ≡ old.entries)
ShardStep old (Asked key) (StoredAs reply) new = ⊥
ShardStep old (Store row) (Probed reply) new = ⊥

-- the calls of a list, one after the other, with these replies
abbrev pub IsReplay : Rows → List Entry → Rows → Type 0
IsReplay old [] new = old ≡ new
IsReplay old (e ∷ es) new = (next : Rows) × ShardStep old e.call e.reply next × IsReplay next es new

-- a new shard
abbrev pub empty : ℕ → Rows
empty entries = record { rows = []; entries = entries }

-- a row is true of its position and its side
abbrev pub IsTrueRow : Claim → Type 0
IsTrueRow row = IsTrueOf row.position row.winner row.fact

abbrev pub GivesTruth : FactCall → Type 0
GivesTruth (Asked key) = ⊤
GivesTruth (Store row) = IsTrueRow row

-- each row that was given is true
abbrev pub StoresTruths : List Entry → Type 0
StoresTruths [] = ⊤
StoresTruths (e ∷ es) = GivesTruth e.call × StoresTruths es

-- no two rows have one key
abbrev pub HaveDifferentKeys : List Claim → Type 0
HaveDifferentKeys [] = ⊤
HaveDifferentKeys (row ∷ rows) = (find_row (row_key row) rows ≡ None) × HaveDifferentKeys rows

-- What holds of the rows of a shard.
pub record AreRows (entries : ℕ) (rows : List Claim) : Type 0 where
  pub few : length rows ≤ entries
  pub apart : HaveDifferentKeys rows
  pub truths : All IsTrueRow rows
