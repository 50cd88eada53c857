-- How many names wait.
use Rattle.std.specs.Prelude.{ℕ, ◌+◌, List, [], ◌∷◌, length}

abbrev pub how_many : List (List ℕ) → ℕ
how_many [] = 0
how_many (names ∷ lists) = length names + how_many lists
