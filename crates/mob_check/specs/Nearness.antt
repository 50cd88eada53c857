-- The squares next to a square.
use Rattle.std.specs.Prelude.{ℕ, ◌==◌, Bool, List}
use Rattle.cha_board.specs.Squares.{steps_apart}
use Rattle.cha_board.specs.SquareSets.{set_of}

-- n is next to s
unfoldable pub is_next_to : ℕ → ℕ → Bool
is_next_to s n = steps_apart s n == 1

-- the squares next to s
unfoldable pub next_to : ℕ → List Bool
next_to s = set_of (is_next_to s)
