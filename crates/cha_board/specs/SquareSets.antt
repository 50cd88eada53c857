-- Sets of squares: a truth value for each of the 64 squares (this project).
use Rattle.std.specs.Prelude.{◌≡◌, ℕ, ◌+◌, ◌*◌, ◌==◌, Bool, false, not, ◌&&◌, ◌||◌, List, [], ◌∷◌, if◌then◌else◌, Option, map, filter, slice_index_or, MatchOption}
use Rattle.std.specs.List.{list_all, list_any}
use Rattle.std.specs.Int.{bit_at}
use Rattle.cha_board.specs.Squares.{squares}

-- the set of the squares that pass a test
abbrev pub set_of : (ℕ → Bool) → List Bool
set_of p = map p squares

-- a square is in a set
abbrev pub has_square : List Bool → ℕ → Bool
has_square set s = slice_index_or set s false

-- the set whose squares are the bits of a number: square s is in it where bit s is 1
abbrev pub set_of_bits : ℕ → List Bool
set_of_bits n = set_of (λ s. bit_at n s == 1)

-- the number whose bits are the squares of a set, from the first square on
unfoldable pub bits_of_set : List Bool → ℕ
bits_of_set [] = 0
bits_of_set (b ∷ bs) = (if b then 1 else 0) + 2 * bits_of_set bs

-- the squares of a set, in order
abbrev pub squares_in : List Bool → List ℕ
squares_in set = filter (has_square set) squares

-- the set of no square
abbrev pub empty_set : List Bool
empty_set = set_of (λ _. false)

-- a set with one more square
unfoldable pub set_with : List Bool → ℕ → List Bool
set_with set at = set_of (λ s. (s == at) || has_square set s)

-- a set without a square
unfoldable pub set_without : List Bool → ℕ → List Bool
set_without set at = set_of (λ s. not (s == at) && has_square set s)

-- the first square of a set comes, and the others are still to come; or none comes, since none was to come
abbrev pub TakesFirst : List Bool → Option ℕ → List Bool → Type 0
TakesFirst old came new = MatchOption came ((squares_in old ≡ []) × (new ≡ old)) (λ at. (squares_in old ≡ at ∷ squares_in new) × (new ≡ set_without old at))

-- a set in which one square is in or out
unfoldable pub set_placed : List Bool → ℕ → Bool → List Bool
set_placed set at inside = set_of (λ s. if s == at then inside else has_square set s)

-- the squares of either set
unfoldable pub set_joined : List Bool → List Bool → List Bool
set_joined a b = set_of (λ s. has_square a s || has_square b s)

-- the squares of both sets
unfoldable pub set_common : List Bool → List Bool → List Bool
set_common a b = set_of (λ s. has_square a s && has_square b s)

-- the squares of a set that are not in another
unfoldable pub set_minus : List Bool → List Bool → List Bool
set_minus a b = set_of (λ s. has_square a s && not (has_square b s))

-- a set has no square
unfoldable pub has_no_square : List Bool → Bool
has_no_square set = not (list_any (has_square set) squares)

-- each square of a set is in another
unfoldable pub is_subset : List Bool → List Bool → Bool
is_subset a b = list_all (λ s. not (has_square a s) || has_square b s) squares
