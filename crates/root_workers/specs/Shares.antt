-- What a worker's part of a round may come to, and which calls of its place it makes (this project).
use Rattle.std.specs.Prelude.{◌≡◌, ℕ, ◌-◌, ◌%◌, ◌<◌, ◌≤◌, true, false, List, [], length, slice_get, Some, None, Contains}
use Rattle.cha_list.specs.Distinct.{AreDistinct}
use Rattle.cha_board.specs.declared.men.Color.{Color}
use Rattle.cha_board.specs.Board.{Board}
use Rattle.cha_moves.specs.Step.{Move}
use Rattle.cha_moves.specs.Moves.{after, legal}
use Rattle.cha_moves.specs.Ends.{IsMatingLine, HasNoMateWithin}
use Rattle.cha_moves.specs.Lines.{HasLines}
use Rattle.cha_fact.specs.Entries.{Entry, IsSearched}
use Rattle.root_workers.specs.declared.task.RoundTask.{RoundTask}
use Rattle.root_workers.specs.declared.work.RootMate.{RootMate}
use Rattle.root_workers.specs.declared.work.Work.{Work}

-- a worker's part of a round did not end before its last root move
abbrev pub IsWhole : Work → Type 0
IsWhole work = (work.mate ≡ None) × (work.spent ≡ false) × (work.refused ≡ false)

-- a worker's part of a round was refused memory before its first root move
abbrev pub IsRefused : Work → Type 0
IsRefused work = (work.cleared.items ≡ []) × (work.mate ≡ None) × (work.spent ≡ false) × (work.refused ≡ true)

-- after root move i there is no mate within one ply less
unfoldable pub IsCleared : RoundTask → List Move → ℕ → Type 0
IsCleared task moves i = (m : Move) → slice_get moves i ≡ Some m → HasNoMateWithin (after task.position m) task.winner (task.depth - 1)

-- the root move is legal, and behind it the line mates
unfoldable pub IsRootMate : RoundTask → List Move → RootMate → Type 0
IsRootMate task moves mate =
    (m : Move) × (slice_get moves mate.root_move ≡ Some m) × Contains (legal task.position) m × IsMatingLine (after task.position m) task.winner mate.line × (length mate.line ≤ 39)

-- as many positions were expanded as a worker may, each at the end of another line of fewer moves than the depth
unfoldable pub IsSpent : RoundTask → Type 0
IsSpent task = (n : ℕ) × (task.allowance ≡ Some n) × HasLines task.position (task.depth - 1) n

-- What the worker with a number among a count of workers leaves of a round: the root moves that it cleared are its own, each
-- once, and where nothing ended its part before they are all its own.
pub record IsShare (task : RoundTask) (moves : List Move) (number count : ℕ) (work : Work) : Type 0 where
  pub cleared : (i : ℕ) → Contains work.cleared.items i → (i < length moves) × (i % count ≡ number) × IsCleared task moves i
  pub once : AreDistinct work.cleared.items
  pub whole : IsWhole work → (i : ℕ) → i < length moves → i % count ≡ number → Contains work.cleared.items i
  pub mate : (mate : RootMate) → work.mate ≡ Some mate → IsRootMate task moves mate
  pub spent : work.spent ≡ true → IsSpent task

-- the position after each root move of the worker with a number among a count of workers was searched to a depth
unfoldable pub AreSharesSearched : List Entry → Board → Color → ℕ → List Move → ℕ → ℕ → Type 0
AreSharesSearched entries q w depth moves number count = (i : ℕ) (m : Move) → slice_get moves i ≡ Some m → i % count ≡ number → IsSearched entries (after q m) w depth

-- the calls of a worker's part of a round: none in a round of at most 4 plies; in a deeper one, where it cleared its root moves,
-- it searched them
unfoldable pub ShareCalls : {S : Type 0} → (S → List Entry → S → Type 0) → S → S → RoundTask → List Move → ℕ → ℕ → Work → Type 0
ShareCalls made old new task moves number count work =
    (entries : List Entry) × made old entries new × (task.depth ≤ 4 → entries ≡ [])
    × (4 < task.depth → IsWhole work → AreSharesSearched entries task.position task.winner (task.depth - 1) moves number count)

-- each worker made some calls, and none in rounds to at most 4 plies
unfoldable pub AllGrowTo : {S : Type 0} → ℕ → (ℕ → S → List Entry → S → Type 0) → S → S → ℕ → Type 0
AllGrowTo depth made_by old new count = (i : ℕ) → i < count → (entries : List Entry) × made_by i old entries new × (depth ≤ 4 → entries ≡ [])

-- each worker made some calls
unfoldable pub AllGrow : {S : Type 0} → (ℕ → S → List Entry → S → Type 0) → S → S → ℕ → Type 0
AllGrow made_by old new count = (i : ℕ) → i < count → (entries : List Entry) × made_by i old entries new
