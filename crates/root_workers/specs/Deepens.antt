-- The rounds from a depth on (this project).
use Rattle.std.specs.Prelude.{◌≡◌, ℕ, ◌-◌, ◌<◌, ◌≤◌, ⊤, List, [], ◌∷◌, Result, Ok}
use Rattle.cha_list.specs.declared.memory.NoMemory.{NoMemory}
use Rattle.cha_board.specs.declared.men.Color.{Color}
use Rattle.cha_board.specs.Board.{Board}
use Rattle.cha_moves.specs.Step.{Move}
use Rattle.cha_moves.specs.Moves.{legal}
use Rattle.cha_fact.specs.declared.fact.Fact.{Fact}
use Rattle.cha_fact.specs.declared.fact.Fact.TheVariants.{Mate as MateFact, NoneWithin as NoneFact}
use Rattle.cha_fact.specs.declared.calls.Stored.{Stored}
use Rattle.cha_fact.specs.Truths.{Claim}
use Rattle.cha_fact.specs.Entries.{Entry, store_entry}
use Rattle.root_workers.specs.declared.task.RoundTask.{RoundTask}
use Rattle.root_workers.specs.declared.work.Work.{Work}
use Rattle.root_workers.specs.declared.answers.RoundsEnd.{RoundsEnd}
use Rattle.root_workers.specs.declared.answers.RoundsEnd.TheVariants.{Mate, NoneWithin}
use Rattle.root_workers.specs.Shares.{IsWhole, AreSharesSearched}
use Rattle.root_workers.specs.RoundAnswers.{HasEndStore, IsEndStore}

-- up to which depth a fact shows that there is no mate
abbrev pub plies_of : Fact → ℕ
plies_of (MateFact line) = 0
plies_of (NoneFact n) = n

-- the answer is of a depth from one on
abbrev pub IsFrom : ℕ → RoundsEnd → Type 0
IsFrom from (Mate line) = ⊤
IsFrom from (NoneWithin d) = from ≤ d

-- the calls of a worker's part of a round whatever its depth: where it cleared its root moves, it searched them
unfoldable pub PartCalls : {S : Type 0} → (S → List Entry → S → Type 0) → S → S → RoundTask → List Move → ℕ → ℕ → Work → Type 0
PartCalls made old new task moves number count work =
    (entries : List Entry) × made old entries new × (IsWhole work → AreSharesSearched entries task.position task.winner (task.depth - 1) moves number count)

-- the calls of one round of more than 4 plies that found no mate
unfoldable pub RoundSearches : {S : Type 0} → (ℕ → S → List Entry → S → Type 0) → S → S → RoundTask → ℕ → Type 0
RoundSearches made_by old new task count =
    (i : ℕ) → i < count → (entries : List Entry) × made_by i old entries new × (4 < task.depth → AreSharesSearched entries task.position task.winner (task.depth - 1) (legal task.position) i count)

-- the calls of the rounds from a depth on: where there is no mate within d plies, and d is more than that depth and than 4, each
-- root move was searched to one ply less by its worker
unfoldable pub DeepenCalls : {S : Type 0} → (ℕ → S → List Entry → S → Type 0) → S → S → Board → Color → ℕ → ℕ → Result RoundsEnd NoMemory → Type 0
DeepenCalls made_by old new q w from count result =
    (i : ℕ) → i < count → (entries : List Entry) × made_by i old entries new
    × ((d : ℕ) → result ≡ Ok (NoneWithin d) → from < d → 4 < d → AreSharesSearched entries q w (d - 1) (legal q) i count)

-- one call, which gives something to keep
unfoldable pub KeepCalls : {S : Type 0} → (S → List Entry → S → Type 0) → S → S → Claim → Type 0
KeepCalls made old new row = (reply : Stored) × made old (store_entry row reply ∷ []) new

-- the calls of a first worker in rounds to at most so many plies that has given an answer to keep, where there is one
unfoldable pub KeptCalls : {S : Type 0} → (S → List Entry → S → Type 0) → S → S → Board → Color → ℕ → Result RoundsEnd NoMemory → Type 0
KeptCalls made old new q w most result =
    (entries : List Entry) × made old entries new × ((end : RoundsEnd) → result ≡ Ok end → HasEndStore entries q w end × (most ≤ 4 → IsEndStore entries q w end))
