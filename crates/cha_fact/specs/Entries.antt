-- Calls of a place that keeps facts with their replies, and which positions were searched by them (this project).
use Rattle.std.specs.Prelude.{◌≡◌, ℕ, zero, suc, ◌≤◌, ⊤, ◌⊎◌, List, Contains}
use Rattle.cha_board.specs.declared.men.Color.{Color}
use Rattle.cha_board.specs.Board.{Board}
use Rattle.cha_moves.specs.Step.{Move}
use Rattle.cha_moves.specs.Moves.{after, legal}
use Rattle.cha_fact.specs.declared.fact.Fact.TheVariants.{NoneWithin}
use Rattle.cha_fact.specs.declared.key.Key.{Key}
use Rattle.cha_fact.specs.declared.calls.Probe.{Probe}
use Rattle.cha_fact.specs.declared.calls.Probe.TheVariants.{Found, Miss, Refused}
use Rattle.cha_fact.specs.declared.calls.Stored.{Stored}
use Rattle.cha_fact.specs.declared.calls.FactCall.{FactCall}
use Rattle.cha_fact.specs.declared.calls.FactCall.TheVariants.{Probe as Asked, Store}
use Rattle.cha_fact.specs.declared.calls.FactReply.{FactReply}
use Rattle.cha_fact.specs.declared.calls.FactReply.TheVariants.{Probed, Stored as StoredAs}
use Rattle.cha_fact.specs.Truths.{Claim}
use Rattle.cha_fact.specs.Keys.{key_of}

-- A call and its reply.
pub record Entry : Type 0 where
  pub call : FactCall
  pub reply : FactReply

abbrev pub probe_entry : Key → Probe → Entry
probe_entry key reply = record { call = Asked key; reply = Probed reply }

abbrev pub store_entry : Claim → Stored → Entry
store_entry row reply = record { call = Store row; reply = StoredAs reply }

-- some calls were made from one state of a place to another
abbrev pub MadeSome : {S : Type 0} → (S → List Entry → S → Type 0) → S → S → Type 0
MadeSome made old new = (entries : List Entry) × made old entries new

-- what was found is of the asked key
abbrev pub IsOfKey : Key → Probe → Type 0
IsOfKey key (Found row) = key_of row.position row.winner ≡ key
IsOfKey key Miss = ⊤
IsOfKey key Refused = ⊤

-- that no list of at most so many legal moves mates
abbrev pub none_within : Board → Color → ℕ → Claim
none_within q winner depth = record { position = q; winner = winner; fact = NoneWithin depth }

-- the entries have a probe of a position
unfoldable pub HasProbe : List Entry → Board → Color → Type 0
HasProbe entries q winner = (reply : Probe) × Contains entries (probe_entry (key_of q winner) reply)

-- the entries have a probe of a position that found that there is no mate within so many plies, or more
unfoldable pub HasFound : List Entry → Board → Color → ℕ → Type 0
HasFound entries q winner depth =
    (row : Claim) × (n : ℕ) × (depth ≤ n) × (row.fact ≡ NoneWithin n) × Contains entries (probe_entry (key_of q winner) (Found row))

-- the entries have a store of a position's having no mate within so many plies
unfoldable pub HasStore : List Entry → Board → Color → ℕ → Type 0
HasStore entries q winner depth = (reply : Stored) × Contains entries (store_entry (none_within q winner depth) reply)

-- a position was searched to a depth by these entries: for one ply or none no place is asked; for more it was found that
-- there is no mate, or the position was asked for, each position after a legal move was searched to one ply less, and what
-- came out was given to keep
abbrev pub IsSearched : List Entry → Board → Color → ℕ → Type 0
IsSearched entries q winner zero = ⊤
IsSearched entries q winner (suc zero) = ⊤
IsSearched entries q winner (suc (suc depth)) =
    HasFound entries q winner (suc (suc depth))
    ⊎ (HasProbe entries q winner × HasStore entries q winner (suc (suc depth)) × ((m : Move) → Contains (legal q) m → IsSearched entries (after q m) winner (suc depth)))
