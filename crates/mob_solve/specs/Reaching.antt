-- Mobility sets as they grow: a set of squares for each origin and kind.
use Rattle.std.specs.Prelude.{◌≡◌, ℕ, ◌+◌, ◌<◌, Bool, true, false, List, [], take, slice_index_or, count_by}
use Rattle.std.specs.List.{sum_by}
use Rattle.cha_board.specs.declared.men.Kind.{Kind}
use Rattle.cha_board.specs.Squares.{squares}
use Rattle.cha_board.specs.SquareSets.{has_square}
use Rattle.mob_sets.specs.Mobility.{Sets}
use Rattle.mob_sets.specs.Rows.{place_of}
use Rattle.mob_solve.specs.declared.reach.Reach.{Reach}

-- the squares on which the man of an origin is in reach as a kind
abbrev pub row_of : Reach → ℕ → Kind → List Bool
row_of reach o k = slice_index_or reach.rows (place_of o k) []

-- the mobility sets that they are
abbrev pub sets_in : Reach → Sets
sets_in reach = record {
  has = λ o k u. has_square (row_of reach o k) u;
  loose = has_square reach.loose;
}

-- how many squares a set has
unfoldable pub size_of : List Bool → ℕ
size_of set = count_by (has_square set) squares

-- how many entries and loose origins there are
unfoldable pub total_of : Reach → ℕ
total_of reach = sum_by size_of (take 384 reach.rows) + size_of reach.loose

-- what a step that answers whether something is new has done: nothing, or there are more entries than before
pub record Grew (old new : Reach) (grew : Bool) : Type 0 where
  pub still : grew ≡ false → new ≡ old
  pub more : grew ≡ true → total_of old < total_of new
