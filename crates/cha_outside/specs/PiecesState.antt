-- What a source of pieces has left, and how it answers. It is this project's.
use Rattle.std.specs.Prelude.{ℕ, ◌-◌, cond, min, max, List, length, drop, slice_index_or}
use Rattle.cha_outside.specs.declared.reading.Got.{Got}
use Rattle.cha_outside.specs.declared.reading.Got.TheVariants.{Failed}
use Rattle.cha_outside.specs.Faults.{counted, is_to_fail}
use Rattle.cha_outside.specs.Reading.{given}

-- the bytes left, the sizes of the calls, the numbers of the calls that are to fail, and the counts so far
pub record PiecesState : Type 0 where
  pub left : List ℕ
  pub sizes : List ℕ
  pub fails : List ℕ
  pub calls : ℕ
  pub faults : ℕ

-- the size of a call, by its number from 1: the last size again when they run out, and 1 for a size of 0 or for none
abbrev pub size_at : List ℕ → ℕ → ℕ
size_at sizes number = max 1 (slice_index_or sizes (min (number - 1) (length sizes - 1)) 1)

-- how many bytes the next call gives where it does not fail
abbrev pub piece_size : PiecesState → ℕ → ℕ
piece_size pieces room = min (size_at pieces.sizes (counted pieces.calls)) (min room (length pieces.left))

-- a numbered call fails; another gives as much as its size, the room and what is left allow
abbrev pub pieces_answer : PiecesState → ℕ → Got
pieces_answer pieces room = cond (is_to_fail pieces.fails (counted pieces.calls)) Failed (given (piece_size pieces room))

-- what a read leaves
abbrev pub pieces_after : PiecesState → ℕ → PiecesState
pieces_after pieces room =
    cond (is_to_fail pieces.fails (counted pieces.calls)) (record pieces { calls = counted pieces.calls; faults = counted pieces.faults })
    (record pieces { calls = counted pieces.calls; left = drop (piece_size pieces room) pieces.left })
