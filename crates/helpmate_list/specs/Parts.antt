-- What one worker's part of the root moves comes to (this project).
use Rattle.std.specs.Prelude.{◌≡◌, ℕ, suc, ◌-◌, ◌%◌, ◌<◌, List, length, take, slice_get, slice_index_or, Some, Result, IfOk, Contains, Vec}
use Rattle.std.specs.declared.alloc.Global.{Global}
use Rattle.cha_list.specs.declared.memory.NoMemory.{NoMemory}
use Rattle.cha_moves.specs.Step.{Move}
use Rattle.cha_moves.specs.Moves.{after}
use Rattle.cha_moves.specs.MateLines.{mate_lines}
use Rattle.helpmate_list.specs.Shortest.{most_lines}
use Rattle.helpmate_list.specs.declared.parts.MateTask.{MateTask}
use Rattle.helpmate_list.specs.declared.parts.RootLines.{RootLines}

-- these are the first lines behind the root move that is named, by one more than an answer has
unfoldable pub IsBehindRoot : MateTask → List Move → RootLines → Type 0
IsBehindRoot task moves behind =
    (m : Move) → slice_get moves behind.root_move ≡ Some m → behind.lines ≡ take (suc most_lines) (mate_lines (task.plies - 1) (after task.position m) task.winner)

-- something was found behind a root move
unfoldable pub HasRoot : List RootLines → ℕ → Type 0
HasRoot found i = (behind : RootLines) × Contains found behind × (behind.root_move ≡ i)

-- What was found behind root moves, among them those of the worker with a number among a count of workers.
pub record IsPart (task : MateTask) (moves : List Move) (number count : ℕ) (found : List RootLines) : Type 0 where
  pub right : (behind : RootLines) → Contains found behind → IsBehindRoot task moves behind
  pub whole : (i : ℕ) → i < length moves → i % count ≡ number → HasRoot found i

-- each worker's part, in the order of workers, where memory was not refused
unfoldable pub AreParts : MateTask → List Move → ℕ → List (Result (Vec RootLines Global) NoMemory) → Type 0
AreParts task moves count parts =
    (length parts ≡ count) × ((i : ℕ) (d : Result (Vec RootLines Global) NoMemory) → i < count → IfOk (slice_index_or parts i d) (λ found. IsPart task moves i count found.items))
