-- Rows stay tidy.
use Rattle.std.proofs.Common.{◌≡◌, ◌≢◌, ℕ, ◌+◌, ◌-◌, ◌<◌, ◌≤◌, Bool, List, [], length, get_or, set, ap, sym, ◌∙◌, arith, inl, inr}
use Rattle.std.specs.List.{All, insert}
use Rattle.std.proofs.lemmas.Bool.{cases_eq, cases_order}
use Rattle.std.proofs.lemmas.List.{get_or-set_same, get_or-set_other}
use Rattle.std.proofs.lemmas.List.Edits.{length-insert, get_or-insert_below, get_or-insert_at, get_or-insert_above}
use Rattle.cha_board.specs.SquareSets.{set_with}
use Rattle.mob_sets.specs.Rows.{Row, has_entry, sets_of, sets_loosened, row_place}
use Rattle.mob_sets.specs.Tidy.{AreTidy, IsFull, IsMissing}
use Rattle.mob_sets.proofs.Order.{rows_rise}
use Rattle.cha_board.proofs.Contents.{has-set_with}

pub none_tidy : AreTidy []
none_tidy = record {
  ordered = λ i j d less inside. absurd (omega (arith, inside));
  full = λ k d inside. absurd (omega (arith, inside));
}

pub place_kept : (rows : List Row) (i : ℕ) (y : Row) (k : ℕ) (d : Row) → i < length rows → row_place y ≡ row_place (get_or rows i d) → row_place (get_or (set rows i y) k d) ≡ row_place (get_or rows k d)
place_kept rows i y k d inside same =
    elim (cases_eq k i) [
      | inl e ↦ ap (λ x. row_place (get_or (set rows i y) x d)) e ∙ ap row_place (get_or-set_same rows i y d inside) ∙ same ∙ sym (ap (λ x. row_place (get_or rows x d)) e)
      | inr ne ↦ ap row_place (get_or-set_other rows i k y d ne)
    ]

-- where a row of the new list comes from
data Came (rows : List Row) (i : ℕ) (y : Row) (k : ℕ) (d : Row) : Type 0 where
  Below : k < i → get_or (insert rows i y) k d ≡ get_or rows k d → Came rows i y k d
  Here : k ≡ i → get_or (insert rows i y) k d ≡ y → Came rows i y k d
  Above : (j : ℕ) → k ≡ j + 1 → i ≤ j → get_or (insert rows i y) k d ≡ get_or rows j d → Came rows i y k d

came : (rows : List Row) (i : ℕ) (y : Row) (k : ℕ) (d : Row) → i ≤ length rows → Came rows i y k d
came rows i y k d bound =
    elim (cases_order k i) [
      | inl e ↦ Here e (ap (λ x. get_or (insert rows i y) x d) e ∙ get_or-insert_at rows i y d bound)
      | inr (inl less) ↦ Below less (get_or-insert_below rows i y d k less bound)
      | inr (inr more) ↦ (
          let one : k ≡ (k - 1) + 1 = omega arith in
          let low : i ≤ k - 1 = omega arith in
          Above (k - 1) one low (ap (λ x. get_or (insert rows i y) x d) one ∙ get_or-insert_above rows i y d (k - 1) low bound))
    ]

inserted_full : (rows : List Row) (i : ℕ) (y : Row) (k : ℕ) (d : Row) → All IsFull rows → IsFull y → i ≤ length rows → k < length rows + 1 → Came rows i y k d → IsFull (get_or (insert rows i y) k d)
inserted_full rows i y k d full here bound inside (Below less e) = rw e (full k d (omega arith))
inserted_full rows i y k d full here bound inside (Here at e) = rw e here
inserted_full rows i y k d full here bound inside (Above j at low e) = rw e (full j d (omega arith))

inserted_rises : (rows : List Row) (i : ℕ) (y : Row) (a b : ℕ) (d : Row) → AreTidy rows → IsMissing rows i (row_place y)
    → a < b → b < length rows + 1 → Came rows i y a d → Came rows i y b d → row_place (get_or (insert rows i y) a d) < row_place (get_or (insert rows i y) b d)
inserted_rises rows i y a b d tidy missing less inside (Below low e) (Below low' f) = rw (e, f) (tidy.ordered a b d less (omega (arith, low', missing.at.bound)))
inserted_rises rows i y a b d tidy missing less inside (Below low e) (Here here f) = rw (e, f) (missing.at.before a d low)
inserted_rises rows i y a b d tidy missing less inside (Below low e) (Above j here low' f) = rw (e, f) (tidy.ordered a j d (omega arith) (omega arith))
inserted_rises rows i y a b d tidy missing less inside (Here here e) (Below low' f) = absurd (omega arith)
inserted_rises rows i y a b d tidy missing less inside (Here here e) (Here here' f) = absurd (omega arith)
inserted_rises rows i y a b d tidy missing less inside (Here here e) (Above j here' low f) =
    let within : j < length rows = omega arith in
    let first = missing.at.after i d (omega arith) (omega (arith, low, within)) in
    let apart : row_place (get_or rows i d) ≢ row_place y = missing.new d (omega (arith, low, within)) in
    let up : row_place (get_or rows i d) ≤ row_place (get_or rows j d) = rows_rise rows tidy i j d low within in
    let all : row_place y < row_place (get_or rows j d) = omega (arith, first, up, apart) in
    rw (e, f) all
inserted_rises rows i y a b d tidy missing less inside (Above j here low e) (Below low' f) = absurd (omega arith)
inserted_rises rows i y a b d tidy missing less inside (Above j here low e) (Here here' f) = absurd (omega arith)
inserted_rises rows i y a b d tidy missing less inside (Above j here low e) (Above j' here' low' f) = rw (e, f) (tidy.ordered j j' d (omega arith) (omega arith))

-- a row goes in at its place
pub inserted_tidy : (rows : List Row) (i : ℕ) (y : Row) → AreTidy rows → IsMissing rows i (row_place y) → IsFull y
    → AreTidy (insert rows i y)
inserted_tidy rows i y tidy missing here =
    let at = missing.at in
    let long = length-insert rows i y at.bound in
    record {
      ordered = λ a b d less within. inserted_rises rows i y a b d tidy missing less (omega (arith, long, within)) (came rows i y a d at.bound) (came rows i y b d at.bound);
      full = λ k d inside. inserted_full rows i y k d tidy.full here at.bound (omega (arith, long, inside)) (came rows i y k d at.bound);
    }

-- one more loose origin
pub loosened : (rows : List Row) (loose : List Bool) (o : ℕ) → length loose ≡ 64 → o < 64
    → sets_of (record { rows = rows; loose = set_with loose o }) ≡ sets_loosened (sets_of (record { rows = rows; loose = loose })) o
loosened rows loose o width small = λ i. record { has = has_entry rows; loose = λ p. has-set_with loose o p width small i }
