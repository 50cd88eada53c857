-- Rows as they are kept: in order, none twice, and none without squares (this project).
use Rattle.std.specs.Prelude.{◌≡◌, ◌≢◌, ℕ, ◌<◌, ◌≤◌, List, length, slice_index_or}
use Rattle.std.specs.List.{All, AllPairs}
use Rattle.cha_board.specs.SquareSets.{empty_set}
use Rattle.mob_sets.specs.Rows.{Row, row_place}

-- a row with some square, which says of each of the 64 squares whether it is in reach
pub record IsFull (row : Row) : Type 0 where
  pub width : length row.squares ≡ 64
  pub some : row.squares ≢ empty_set

pub record AreTidy (rows : List Row) : Type 0 where
  pub ordered : AllPairs (λ a b. row_place a < row_place b) rows
  pub full : All IsFull rows

-- as many rows stand before a place as i says
pub record StandsAt (rows : List Row) (i place : ℕ) : Type 0 where
  pub bound : i ≤ length rows
  pub before : (k : ℕ) (d : Row) → k < i → row_place (slice_index_or rows k d) < place
  pub after : (k : ℕ) (d : Row) → i ≤ k → k < length rows → place ≤ row_place (slice_index_or rows k d)

-- the row of a place is the i-th
pub record IsThere (rows : List Row) (i place : ℕ) : Type 0 where
  pub inside : i < length rows
  pub at : StandsAt rows i place
  pub same : (d : Row) → row_place (slice_index_or rows i d) ≡ place

-- no row has the place, and its row would be the i-th
pub record IsMissing (rows : List Row) (i place : ℕ) : Type 0 where
  pub at : StandsAt rows i place
  pub new : (d : Row) → i < length rows → row_place (slice_index_or rows i d) ≢ place
