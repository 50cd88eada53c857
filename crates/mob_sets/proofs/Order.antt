-- The places of rows.
use Rattle.std.proofs.Common.{◌≡◌, ℕ, ◌<◌, List, get_or, refl, ap, arith, inl, inr}
use Rattle.std.specs.List.Sorted.{IsNonDecreasingBy}
use Rattle.std.proofs.lemmas.Bool.{cases_eq}
use Rattle.cha_board.specs.declared.men.Kind.{Kind}
use Rattle.cha_board.specs.declared.men.Kind.TheVariants.{Pawn, Knight, Bishop, Rook, Queen, King}
use Rattle.mob_sets.specs.Rows.{Row, kind_number, place_of, row_place}
use Rattle.mob_sets.specs.Tidy.{AreTidy}

pub number_small : (k : Kind) → kind_number k < 6
number_small Pawn = omega arith
number_small Knight = omega arith
number_small Bishop = omega arith
number_small Rook = omega arith
number_small Queen = omega arith
number_small King = omega arith

number_tells : (a b : Kind) → kind_number a ≡ kind_number b → a ≡ b
number_tells Pawn Pawn e = refl
number_tells Knight Knight e = refl
number_tells Bishop Bishop e = refl
number_tells Rook Rook e = refl
number_tells Queen Queen e = refl
number_tells King King e = refl
number_tells a b e = absurd (omega (arith, e))

-- a place tells its origin and its kind
pub place_tells : (o p : ℕ) (k j : Kind) → place_of o k ≡ place_of p j → (o ≡ p) × (k ≡ j)
place_tells o p k j e =
    let a = number_small k in
    let b = number_small j in
    let one : o ≡ p = omega (arith, e, a, b) in
    (one, number_tells k j (omega (arith, e, one)))

pub rows_rise : (rows : List Row) → AreTidy rows → IsNonDecreasingBy row_place rows
rows_rise rows tidy i j d low inside =
    elim (cases_eq i j) [
      | inl e ↦ (let same = ap (λ x. row_place (get_or rows x d)) e in omega (arith, same))
      | inr ne ↦ (let less : i < j = omega arith in let up = tidy.ordered i j d less inside in omega (arith, up))
    ]
