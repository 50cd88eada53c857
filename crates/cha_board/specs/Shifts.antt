-- Sets of squares, moved by one square, where what leaves the board is gone, and steps of kings (this project).
use Rattle.std.specs.Prelude.{ℕ, ◌+◌, ◌-◌, ◌==◌, Bool, not, ◌&&◌, List}
use Rattle.std.specs.List.{list_any}
use Rattle.cha_board.specs.declared.men.Color.{Color}
use Rattle.cha_board.specs.declared.men.Color.TheVariants.{White, Black}
use Rattle.cha_board.specs.Squares.{squares, file_of, rank_of, steps_apart}
use Rattle.cha_board.specs.SquareSets.{has_square}

-- t is one rank above a square of the set, one below, one file to the right and one to the left
abbrev pub is_above : List Bool → ℕ → Bool
is_above set t = not (rank_of t == 0) && has_square set (t - 8)

abbrev pub is_below : List Bool → ℕ → Bool
is_below set t = not (rank_of t == 7) && has_square set (t + 8)

abbrev pub is_right_of : List Bool → ℕ → Bool
is_right_of set t = not (file_of t == 0) && has_square set (t - 1)

abbrev pub is_left_of : List Bool → ℕ → Bool
is_left_of set t = not (file_of t == 7) && has_square set (t + 1)

-- t is one rank ahead of a square of the set, as c sees it
abbrev pub is_ahead : Color → List Bool → ℕ → Bool
is_ahead White = is_above
is_ahead Black = is_below

-- t is one step of a king away from a square of the set
unfoldable pub is_king_step : List Bool → ℕ → Bool
is_king_step set t = list_any (λ u. has_square set u && (steps_apart u t == 1)) squares
