-- What rows show, before and after an edit.
use Rattle.std.proofs.Common.{◌≡◌, ℕ, zero, suc, ◌<◌, Bool, true, false, ◌&&◌, ◌||◌, ◌==◌, List, [], ◌∷◌, length, get_or, set, take, drop, refl, ap, sym, ◌∙◌, arith, inl, inr}
use Rattle.std.specs.List.{list_any, insert}
use Rattle.std.proofs.Math.Bool.{or_assoc}
use Rattle.std.proofs.lemmas.Bool.{cases_order, cases_Bool, eqb-true, eq-eqb, and_parts, and_from, both_ways, false_from_ne_true}
use Rattle.std.proofs.lemmas.List.{take-append-drop, get_or_default}
use Rattle.std.proofs.lemmas.List.Folds.{list_any-append, list_any_at, list_any_none}
use Rattle.cha_board.specs.declared.men.Kind.{Kind}
use Rattle.cha_board.specs.Men.{same_kind}
use Rattle.cha_board.specs.SquareSets.{has_square}
use Rattle.mob_sets.specs.Rows.{Row, is_entry, has_entry, place_of, row_place}
use Rattle.mob_sets.specs.Tidy.{AreTidy, IsThere, IsMissing}
use Rattle.cha_board.proofs.Identity.{same_kind_equal, same_kind_self}
use Rattle.mob_sets.proofs.Order.{place_tells}

pub record EntryParts (o : ℕ) (k : Kind) (u : ℕ) (row : Row) : Type 0 where
  pub origin : row.origin ≡ o
  pub kind : row.kind ≡ k
  pub square : has_square row.squares u ≡ true

pub entry_parts : (o : ℕ) (k : Kind) (u : ℕ) (row : Row) → is_entry o k u row ≡ true → EntryParts o k u row
entry_parts o k u row h =
    let a = and_parts ((row.origin == o) && same_kind row.kind k) (has_square row.squares u) h in
    let b = and_parts (row.origin == o) (same_kind row.kind k) a.0 in
    record { origin = eqb-true row.origin o b.0; kind = same_kind_equal row.kind k b.1; square = a.1 }

pub entry_from : (o : ℕ) (k : Kind) (u : ℕ) (row : Row) → row.origin ≡ o → row.kind ≡ k → has_square row.squares u ≡ true → is_entry o k u row ≡ true
entry_from o k u row e f g =
    let same : same_kind row.kind k ≡ true = rw f (same_kind_self k) in
    and_from ((row.origin == o) && same_kind row.kind k) (has_square row.squares u) (and_from (row.origin == o) (same_kind row.kind k) (eq-eqb row.origin o e) same) g

-- the first two of three tests
swapped : (a b c : Bool) → (a || (b || c)) ≡ (b || (a || c))
swapped true true c = refl
swapped true false c = refl
swapped false b c = refl

-- after a row is replaced
pub any_replaced : (q : Row → Bool) (e : Bool) (rows : List Row) (i : ℕ) (y d : Row) → i < length rows → q y ≡ (e || q (get_or rows i d)) → list_any q (set rows i y) ≡ (e || list_any q rows)
any_replaced q e [] i y d inside h = absurd (omega (arith, inside))
any_replaced q e (x ∷ rows) zero y d inside h = ap (λ b. b || list_any q rows) h ∙ or_assoc e (q x) (list_any q rows)
any_replaced q e (x ∷ rows) (suc i) y d inside h =
    ap (λ b. q x || b) (any_replaced q e rows i y d (omega arith) h) ∙ swapped (q x) e (list_any q rows)

-- after a row is inserted
pub any_inserted : (q : Row → Bool) (e : Bool) (rows : List Row) (i : ℕ) (y : Row) → q y ≡ e → list_any q (insert rows i y) ≡ (e || list_any q rows)
any_inserted q e rows i y h =
    let a = list_any q (take i rows) in
    let b = list_any q (drop i rows) in
    let all : list_any q rows ≡ (a || b) = ap (list_any q) (sym (take-append-drop i rows)) ∙ list_any-append q (take i rows) (drop i rows) in
    list_any-append q (take i rows) (y ∷ drop i rows) ∙ ap (λ x. a || (x || b)) h ∙ swapped a e b ∙ ap (λ x. e || x) (sym all)

pub shared : (a b c d : Bool) → (a && b && (c || d)) ≡ ((a && b && c) || (a && b && d))
shared true true c d = refl
shared true false c d = refl
shared false b c d = refl

-- the row at its place shows all that rows show of its origin and kind
pub shown_there : (rows : List Row) (i : ℕ) (o : ℕ) (k : Kind) (u : ℕ) (d : Row) → AreTidy rows → IsThere rows i (place_of o k)
    → has_entry rows o k u ≡ has_square (get_or rows i d).squares u
unfolding has_entry
shown_there rows i o k u d tidy there_is =
    let at = there_is.at in
    let inside = there_is.inside in
    let same = there_is.same d in
    let row = get_or rows i d in
    let it = place_tells row.origin o row.kind k same in
    elim (cases_Bool (has_square row.squares u)) [
      | inl here ↦ list_any_at (is_entry o k u) rows i d inside (entry_from o k u row it.0 it.1 here) ∙ sym here
      | inr gone ↦ list_any_none (is_entry o k u) rows (λ j e within.
          false_from_ne_true (is_entry o k u (get_or rows j e)) (λ passes.
          let parts = entry_parts o k u (get_or rows j e) passes in
          let there : row_place (get_or rows j e) ≡ place_of o k = rw (parts.origin, parts.kind) refl in
          elim (cases_order i j) [
            | inl eq ↦ (
                let one : get_or rows j e ≡ row = sym (ap (λ x. get_or rows x e) eq) ∙ get_or_default rows i e d inside in
                both_ways (has_square row.squares u) gone (sym (ap (λ (r : Row). has_square r.squares u) one) ∙ parts.square))
            | inr (inl less) ↦ (
                let up = tidy.ordered i j e less within in
                let one = ap row_place (get_or_default rows i e d inside) in
                omega (arith, up, one, same, there))
            | inr (inr more) ↦ (let low = at.before j e more in omega (arith, low, there))
          ])) ∙ sym gone
    ]

-- where no row stands at its place, rows show nothing of its origin and kind
pub shown_nowhere : (rows : List Row) (i : ℕ) (o : ℕ) (k : Kind) (u : ℕ) → AreTidy rows → IsMissing rows i (place_of o k)
    → has_entry rows o k u ≡ false
unfolding has_entry
shown_nowhere rows i o k u tidy missing =
    let at = missing.at in
    let new = missing.new in
    list_any_none (is_entry o k u) rows (λ j e within.
    false_from_ne_true (is_entry o k u (get_or rows j e)) (λ passes.
    let parts = entry_parts o k u (get_or rows j e) passes in
    let there : row_place (get_or rows j e) ≡ place_of o k = rw (parts.origin, parts.kind) refl in
    elim (cases_order i j) [
      | inl eq ↦ new e (omega (arith, eq, within)) (ap (λ x. row_place (get_or rows x e)) eq ∙ there)
      | inr (inl less) ↦ (
          let up = tidy.ordered i j e less within in
          let low = at.after i e (omega arith) (omega (arith, less, within)) in
          omega (arith, up, low, there))
      | inr (inr more) ↦ (let low = at.before j e more in omega (arith, low, there))
    ]))
