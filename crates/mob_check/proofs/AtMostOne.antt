-- Sets of at most one square.
use Rattle.std.proofs.Common.{◌≡◌, ◌≢◌, ℕ, ◌<◌, Bool, true, false, not, ◌&&◌, ◌==◌, List, [], length, get_or, Option, Some, None, slice_get, refl, sym, ap, subst, ◌∙◌, arith, inl, inr}
use Rattle.std.proofs.lemmas.Bool.{and_parts, and_from, both_ways, cases_eq, eqb-false, ltb-true, ltb-false, ne_eqb, not-true}
use Rattle.std.proofs.lemmas.List.{nil_from_length}
use Rattle.std.proofs.lemmas.List.Elements.{filter_passes}
use Rattle.cha_board.specs.Squares.{squares}
use Rattle.cha_board.specs.SquareSets.{set_of, has_square, squares_in, set_without}
use Rattle.cha_board.proofs.SetLaws.{has-set_of, squares_from_first, no_first_square}
use Rattle.cha_board.proofs.Contents.{in_set_of}
use Rattle.cha_moves.proofs.Facing.{none_left}
use Rattle.mob_check.specs.Scenes.{has_at_most_one}

-- where the first square is the only one
only_first : (f : ℕ → Bool) (s : ℕ) → squares_in (set_without (set_of f) s) ≡ [] → (u : ℕ) → u < 64 → f u ≡ true → u ≡ s
unfolding set_without
only_first f s rest u small here =
    elim (cases_eq u s) [
      | inl e ↦ e
      | inr ne ↦ absurd (both_ways (has_square (set_of (λ x. not (x == s) && has_square (set_of f) x)) u) (none_left (set_of (λ x. not (x == s) && has_square (set_of f) x)) rest u small)
          (has-set_of (λ x. not (x == s) && has_square (set_of f) x) u small ∙ and_from (not (u == s)) (has_square (set_of f) u) (ap not (ne_eqb u s ne)) (has-set_of f u small ∙ here)))
    ]

one_by_first : (f : ℕ → Bool) (o : Option ℕ) → slice_get (squares_in (set_of f)) 0 ≡ o → length (squares_in (set_of f)) < 2 → (u v : ℕ) → u < 64 → v < 64 → f u ≡ true → f v ≡ true → u ≡ v
one_by_first f None first less u v small small' here there =
    absurd (both_ways (has_square (set_of f) u) (none_left (set_of f) (no_first_square (set_of f) first) u small) (has-set_of f u small ∙ here))
one_by_first f (Some s) first less u v small small' here there =
    let long = ap (λ (xs : List ℕ). length xs) (squares_from_first (set_of f) s first) in
    let rest = nil_from_length (squares_in (set_without (set_of f) s)) (omega (arith, long, less)) in
    only_first f s rest u small here ∙ sym (only_first f s rest v small' there)

pub at_most_one : (f : ℕ → Bool) → has_at_most_one (set_of f) ≡ true → (u v : ℕ) → u < 64 → v < 64 → f u ≡ true → f v ≡ true → u ≡ v
unfolding has_at_most_one
at_most_one f few = one_by_first f (slice_get (squares_in (set_of f)) 0) refl (ltb-true (length (squares_in (set_of f))) 2 few)

pub record Two (f : ℕ → Bool) : Type 0 where
  pub first : ℕ
  pub second : ℕ
  pub apart : first ≢ second
  pub here : f first ≡ true
  pub there : f second ≡ true

two_by_first : (f : ℕ → Bool) (o : Option ℕ) → slice_get (squares_in (set_of f)) 0 ≡ o → 1 < length (squares_in (set_of f)) → Two f
unfolding set_without
two_by_first f None first more = (let none = ap (λ (xs : List ℕ). length xs) (no_first_square (set_of f) first) in absurd (omega (arith, none, more)))
two_by_first f (Some s) first more =
    let split = squares_from_first (set_of f) s first in
    let long = ap (λ (xs : List ℕ). length xs) split in
    let rest = squares_in (set_without (set_of f) s) in
    let t = get_or rest 0 0 in
    let P : ℕ → Type 0 = λ x. has_square (set_of f) x ≡ true in
    let at : get_or (squares_in (set_of f)) 0 0 ≡ s = ap (λ xs. get_or xs 0 0) split in
    let here = in_set_of f s (subst P at (filter_passes (has_square (set_of f)) squares 0 0 (omega (arith, more)))) in
    let other = in_set_of (λ x. not (x == s) && has_square (set_of f) x) t (filter_passes (has_square (set_without (set_of f) s)) squares 0 0 (omega (arith, long, more))) in
    let both = and_parts (not (t == s)) (has_square (set_of f) t) other.1 in
    record { first = s; second = t; apart = λ e. eqb-false t s (not-true (t == s) both.0) (sym e); here = here.1; there = (in_set_of f t both.1).1 }

pub several : (f : ℕ → Bool) → has_at_most_one (set_of f) ≡ false → Two f
unfolding has_at_most_one
several f more = two_by_first f (slice_get (squares_in (set_of f)) 0) refl (let e = ltb-false (length (squares_in (set_of f))) 2 more in omega (arith, e))
