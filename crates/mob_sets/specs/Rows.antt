-- Mobility sets as rows: one for each origin and kind with squares in reach (this project).
use Rattle.std.specs.Prelude.{ℕ, ◌+◌, ◌*◌, ◌==◌, Bool, ◌&&◌, ◌||◌, List, [], ◌∷◌}
use Rattle.std.specs.List.{list_any}
use Rattle.cha_board.specs.declared.men.Kind.{Kind}
use Rattle.cha_board.specs.declared.men.Kind.TheVariants.{Pawn, Knight, Bishop, Rook, Queen, King}
use Rattle.cha_board.specs.Men.{same_kind}
use Rattle.cha_board.specs.SquareSets.{has_square, set_joined}
use Rattle.mob_sets.specs.Mobility.{Sets}

-- the squares on which the man of an origin may ever stand as a kind
pub record Row : Type 0 where
  pub origin : ℕ
  pub kind : Kind
  pub squares : List Bool

-- rows, and the loose origins
pub record SetRows : Type 0 where
  pub rows : List Row
  pub loose : List Bool

-- a row shows that the man of o may stand on u as a k
abbrev pub is_entry : ℕ → Kind → ℕ → Row → Bool
is_entry o k u row = (row.origin == o) && same_kind row.kind k && has_square row.squares u

-- some row shows it
unfoldable pub has_entry : List Row → ℕ → Kind → ℕ → Bool
has_entry rows o k u = list_any (is_entry o k u) rows

-- the mobility sets that rows show
abbrev pub sets_of : SetRows → Sets
sets_of r = record { has = has_entry r.rows; loose = has_square r.loose }

-- what is in reach, with one more square
abbrev pub entries_with : (ℕ → Kind → ℕ → Bool) → ℕ → Kind → ℕ → ℕ → Kind → ℕ → Bool
entries_with has o k u = λ p j v. ((o == p) && same_kind k j && (v == u)) || has p j v

-- the sets with one more square in reach
abbrev pub sets_with : Sets → ℕ → Kind → ℕ → Sets
sets_with s o k u = record { has = entries_with s.has o k u; loose = s.loose }

-- what is in reach, with more squares
abbrev pub entries_joined : (ℕ → Kind → ℕ → Bool) → ℕ → Kind → List Bool → ℕ → Kind → ℕ → Bool
entries_joined has o k more = λ p j v. ((o == p) && same_kind k j && has_square more v) || has p j v

-- the sets with more squares in reach
abbrev pub sets_joined : Sets → ℕ → Kind → List Bool → Sets
sets_joined s o k more = record { has = entries_joined s.has o k more; loose = s.loose }

-- the sets with one more loose origin
abbrev pub sets_loosened : Sets → ℕ → Sets
sets_loosened s o = record {
  has = s.has;
  loose = λ p. (p == o) || s.loose p;
}

-- the row with more squares
abbrev pub row_joined : Row → List Bool → Row
row_joined row more = record { origin = row.origin; kind = row.kind; squares = set_joined more row.squares }

-- the kinds in the order of rows: P, N, B, R, Q, K
abbrev pub kinds : List Kind
kinds = Pawn ∷ Knight ∷ Bishop ∷ Rook ∷ Queen ∷ King ∷ []

-- the number of a kind in that order
abbrev pub kind_number : Kind → ℕ
kind_number Pawn = 0
kind_number Knight = 1
kind_number Bishop = 2
kind_number Rook = 3
kind_number Queen = 4
kind_number King = 5

-- rows stand in order of origin, then of kind
abbrev pub place_of : ℕ → Kind → ℕ
place_of o k = o * 6 + kind_number k

abbrev pub row_place : Row → ℕ
row_place row = place_of row.origin row.kind
