-- What a search makes of a place that keeps facts, position by position (this project).
use Rattle.std.specs.Prelude.{◌≡◌, ℕ, ◌-◌, ◌<◌, ◌≤◌, List, ◌∷◌, Contains, Result, Ok}
use Rattle.cha_list.specs.declared.memory.NoMemory.{NoMemory}
use Rattle.cha_board.specs.declared.men.Color.{Color}
use Rattle.cha_board.specs.Board.{Board}
use Rattle.cha_moves.specs.Step.{Move}
use Rattle.cha_moves.specs.Moves.{after, legal}
use Rattle.cha_fact.specs.declared.calls.Probe.{Probe}
use Rattle.cha_fact.specs.Keys.{key_of}
use Rattle.cha_fact.specs.Entries.{Entry, probe_entry, HasStore, IsSearched}
use Rattle.helpmate.specs.declared.answers.RoundAnswer.{RoundAnswer}
use Rattle.helpmate.specs.declared.answers.RoundAnswer.TheVariants.{NoneWithin}
use Rattle.helpmate.specs.Rounds.{AreExpandedBy, FollowsProbe}

-- each position after a move of a list was searched to a depth by these entries
unfoldable pub AreSearched : List Entry → Board → Color → ℕ → List Move → Type 0
AreSearched entries q winner depth ms = (m : Move) → Contains ms m → IsSearched entries (after q m) winner depth

-- each position after a legal move was searched to one ply less, and what came out was given to keep
unfoldable pub IsExpanded : List Entry → Board → Color → ℕ → Type 0
IsExpanded entries q winner depth = HasStore entries q winner depth × AreSearched entries q winner (depth - 1) (legal q)

-- the calls of an expansion, and how many positions were expanded
unfoldable pub Expands : {S : Type 0} → (S → List Entry → S → Type 0) → S → S → Board → Color → ℕ → ℕ → Result RoundAnswer NoMemory → Type 0
Expands made old new q winner depth positions result =
    (entries : List Entry) × made old entries new × (result ≡ Ok NoneWithin → IsExpanded entries q winner depth)
    × ((answer : RoundAnswer) → result ≡ Ok answer → AreExpandedBy entries q winner depth answer positions)

-- the first entry is a probe of the position, and what was found is the answer if it decides
unfoldable pub BeginsWithProbe : List Entry → Board → Color → ℕ → ℕ → Result RoundAnswer NoMemory → Type 0
BeginsWithProbe entries q winner depth positions result =
    (reply : Probe) × (rest : List Entry) × (entries ≡ probe_entry (key_of q winner) reply ∷ rest)
    × ((answer : RoundAnswer) → result ≡ Ok answer → FollowsProbe q winner depth reply rest answer positions)

-- The calls of a search.
pub record Searches {S : Type 0} (made : S → List Entry → S → Type 0) (old new : S) (q : Board) (winner : Color) (depth positions : ℕ) (result : Result RoundAnswer NoMemory) : Type 0 where
  pub entries : List Entry
  pub entered : made old entries new
  pub searched : result ≡ Ok NoneWithin → IsSearched entries q winner depth
  pub first : 1 < depth → BeginsWithProbe entries q winner depth positions result
  pub last : depth ≤ 1 → (answer : RoundAnswer) → result ≡ Ok answer → AreExpandedBy entries q winner depth answer positions

-- The calls of the search of a round's position, which is asked for whatever the depth.
pub record RootSearches {S : Type 0} (made : S → List Entry → S → Type 0) (old new : S) (q : Board) (winner : Color) (depth positions : ℕ) (result : Result RoundAnswer NoMemory) : Type 0 where
  pub entries : List Entry
  pub entered : made old entries new
  pub searched : result ≡ Ok NoneWithin → IsSearched entries q winner depth
  pub first : BeginsWithProbe entries q winner depth positions result
