-- Tidy rows that show the same are the same.
use Rattle.std.proofs.Common.{◌≡◌, ◌≢◌, ℕ, zero, suc, ◌<◌, ◌≤◌, Bool, true, false, ◌||◌, List, [], ◌∷◌, length, get_or, refl, ap, sym, ◌∙◌, arith, ◌⊎◌, inl, inr}
use Rattle.std.proofs.lemmas.Bool.{cases_eq, cases_order, both_ways, false_from_ne_true}
use Rattle.cha_board.specs.declared.men.Kind.{Kind}
use Rattle.cha_board.specs.SquareSets.{empty_set, has_square}
use Rattle.cha_board.proofs.SetLaws.{length-set_of, same_squares}
use Rattle.mob_sets.specs.Rows.{Row, SetRows, is_entry, has_entry, sets_of, place_of, row_place}
use Rattle.mob_sets.specs.Tidy.{AreTidy, IsFull}
use Rattle.mob_sets.proofs.Order.{place_tells}
use Rattle.cha_board.proofs.Contents.{in_empty}
use Rattle.mob_sets.proofs.RowsShow.{entry_parts, shown_there, shown_nowhere}

none_more : (xs : List Bool) → ((u : ℕ) → has_square xs u ≡ false) → (u : ℕ) → has_square (false ∷ xs) u ≡ false
none_more xs none zero = refl
none_more xs none (suc u) = none u

some_or_none : (xs : List Bool) → ((u : ℕ) × (has_square xs u ≡ true)) ⊎ ((u : ℕ) → has_square xs u ≡ false)
some_or_none [] = inr (λ u. refl)
some_or_none (true ∷ xs) = inl (0, refl)
some_or_none (false ∷ xs) =
    elim (some_or_none xs) [
      | inl found ↦ inl (suc (found.0), found.1)
      | inr none ↦ inr (none_more xs none)
    ]

some_square : (row : Row) → IsFull row → (u : ℕ) × (has_square row.squares u ≡ true)
some_square row full =
    elim (some_or_none row.squares) [
      | inl found ↦ found
      | inr none ↦ absurd (full.some (same_squares row.squares empty_set full.width (length-set_of (λ _. false)) (λ s small. none s ∙ sym (in_empty s))))
    ]

tail_tidy : (x : Row) (xs : List Row) → AreTidy (x ∷ xs) → AreTidy xs
tail_tidy x xs tidy = record {
  ordered = λ i j d less inside. tidy.ordered (suc i) (suc j) d (omega arith) (omega arith);
  full = λ k d inside. tidy.full (suc k) d (omega arith);
}

rises_from : (x : Row) (xs : List Row) (k : ℕ) (d : Row) → AreTidy (x ∷ xs) → k < length (x ∷ xs) → row_place x ≤ row_place (get_or (x ∷ xs) k d)
rises_from x xs zero d tidy inside = omega arith
rises_from x xs (suc k) d tidy inside = (let up = tidy.ordered 0 (suc k) d (omega arith) inside in omega (arith, up))

-- the first row shows all that rows show of its origin and kind
first_shows : (x : Row) (xs : List Row) (u : ℕ) → AreTidy (x ∷ xs) → has_entry (x ∷ xs) x.origin x.kind u ≡ has_square x.squares u
first_shows x xs u tidy =
    shown_there (x ∷ xs) 0 x.origin x.kind u x tidy (record {
      inside = omega arith;
      at = record { bound = omega arith; before = λ k d less. absurd (omega (arith, less)); after = λ k d low inside. rises_from x xs k d tidy inside };
      same = λ d. refl;
    })

-- what stands before the first row is not shown
before_first : (x : Row) (xs : List Row) (o : ℕ) (k : Kind) (u : ℕ) → AreTidy (x ∷ xs) → place_of o k < row_place x → has_entry (x ∷ xs) o k u ≡ false
before_first x xs o k u tidy less =
    shown_nowhere (x ∷ xs) 0 o k u tidy (record {
      at = record { bound = omega arith; before = λ j d low. absurd (omega (arith, low)); after = λ j d low inside. (let up = rises_from x xs j d tidy inside in omega (arith, up, less)) };
      new = λ d inside e. omega (arith, e, less);
    })

-- nor is what has the place of the first row shown by the others
behind_first : (x : Row) (xs : List Row) (o : ℕ) (k : Kind) (u : ℕ) → AreTidy (x ∷ xs) → place_of o k ≡ row_place x → has_entry xs o k u ≡ false
behind_first x xs o k u tidy e =
    shown_nowhere xs 0 o k u (tail_tidy x xs tidy) (record {
      at = record { bound = omega arith; before = λ j d low. absurd (omega (arith, low)); after = λ j d low inside. (let up = tidy.ordered 0 (suc j) d (omega arith) (omega arith) in omega (arith, up, e)) };
      new = λ d inside f. (let up = tidy.ordered 0 1 d (omega arith) (omega arith) in omega (arith, up, e, f));
    })

not_entry : (row : Row) (o : ℕ) (k : Kind) (u : ℕ) → place_of o k ≢ row_place row → is_entry o k u row ≡ false
not_entry row o k u ne =
    false_from_ne_true (is_entry o k u row) (λ passes.
    let parts = entry_parts o k u row passes in
    let same : row_place row ≡ place_of o k = rw (parts.origin, parts.kind) refl in
    ne (sym same))

row_same : (x y : Row) → x.origin ≡ y.origin → x.kind ≡ y.kind → x.squares ≡ y.squares → x ≡ y
row_same x y e f g = λ i. record { origin = e i; kind = f i; squares = g i }

-- rows show the same
abbrev AreAlike : List Row → List Row → Type 0
AreAlike a b = (o : ℕ) (k : Kind) (u : ℕ) → has_entry a o k u ≡ has_entry b o k u

first_only : (x : Row) (xs : List Row) → AreTidy (x ∷ xs) → AreAlike [] (x ∷ xs) → ⊥
unfolding has_entry
first_only x xs tidy alike =
    let found = some_square x (tidy.full 0 x (omega arith)) in
    both_ways (has_entry (x ∷ xs) x.origin x.kind found.0) (sym (alike x.origin x.kind found.0)) (first_shows x xs found.0 tidy ∙ found.1)

not_before : (x y : Row) (xs ys : List Row) → AreTidy (x ∷ xs) → AreTidy (y ∷ ys) → AreAlike (x ∷ xs) (y ∷ ys) → row_place x < row_place y → ⊥
not_before x y xs ys tidy tidy' alike less =
    let found = some_square x (tidy.full 0 x (omega arith)) in
    both_ways (has_entry (y ∷ ys) x.origin x.kind found.0) (before_first y ys x.origin x.kind found.0 tidy' less) (sym (alike x.origin x.kind found.0) ∙ first_shows x xs found.0 tidy ∙ found.1)

tails_alike : (x y : Row) (xs ys : List Row) → AreTidy (x ∷ xs) → AreTidy (y ∷ ys) → AreAlike (x ∷ xs) (y ∷ ys) → row_place x ≡ row_place y → AreAlike xs ys
unfolding has_entry
tails_alike x y xs ys tidy tidy' alike e o k u =
    elim (cases_eq (place_of o k) (row_place x)) [
      | inl f ↦ behind_first x xs o k u tidy f ∙ sym (behind_first y ys o k u tidy' (f ∙ e))
      | inr ne ↦ (
          let a = not_entry x o k u ne in
          let b = not_entry y o k u (λ f. ne (f ∙ sym e)) in
          sym (ap (λ t. t || has_entry xs o k u) a) ∙ alike o k u ∙ ap (λ t. t || has_entry ys o k u) b)
    ]

pub same_rows : (a b : List Row) → AreTidy a → AreTidy b → AreAlike a b → a ≡ b
same_rows [] [] tidy tidy' alike = refl
same_rows [] (y ∷ ys) tidy tidy' alike = absurd (first_only y ys tidy' alike)
same_rows (x ∷ xs) [] tidy tidy' alike = absurd (first_only x xs tidy (λ o k u. sym (alike o k u)))
same_rows (x ∷ xs) (y ∷ ys) tidy tidy' alike =
    elim (cases_order (row_place x) (row_place y)) [
      | inl e ↦ (
          let it = place_tells x.origin y.origin x.kind y.kind e in
          let width = (tidy.full 0 x (omega arith)).width in
          let width' = (tidy'.full 0 y (omega arith)).width in
          let squares = same_squares x.squares y.squares width width' (λ s small.
          sym (first_shows x xs s tidy) ∙ alike x.origin x.kind s ∙ ap (λ o. has_entry (y ∷ ys) o x.kind s) it.0 ∙ ap (λ k. has_entry (y ∷ ys) y.origin k s) it.1 ∙ first_shows y ys s tidy') in
          let one = row_same x y it.0 it.1 squares in
          let rest = same_rows xs ys (tail_tidy x xs tidy) (tail_tidy y ys tidy') (tails_alike x y xs ys tidy tidy' alike e) in
          λ i. one i ∷ rest i)
      | inr (inl less) ↦ absurd (not_before x y xs ys tidy tidy' alike less)
      | inr (inr more) ↦ absurd (not_before y x ys xs tidy' tidy (λ o k u. sym (alike o k u)) more)
    ]

pub same_sets : (a b : SetRows) → AreTidy a.rows → AreTidy b.rows → length a.loose ≡ 64 → length b.loose ≡ 64 → sets_of a ≡ sets_of b → a ≡ b
same_sets a b tidy tidy' width width' same =
    let rows = same_rows a.rows b.rows tidy tidy' (λ o k u i. (same i).has o k u) in
    let loose = same_squares a.loose b.loose width width' (λ s small i. (same i).loose s) in
    λ i. record { rows = rows i; loose = loose i }
