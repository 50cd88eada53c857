-- What is in sets of squares.
use Rattle.std.proofs.Common.{◌≡◌, ℕ, ◌<◌, Bool, true, false, not, ◌&&◌, ◌||◌, List, length, ◌==◌, refl, sym, subst, ◌∙◌, arith, ◌⊎◌, inl, inr}
use Rattle.std.specs.List.{list_all, list_any}
use Rattle.std.proofs.lemmas.Bool.{and_parts, or_cases, or_left, or_right, both_ways, cases_lt, cases_Bool, false_from_ne_true, not-true, eq-eqb, ne_eqb, eqb-true}
use Rattle.std.proofs.lemmas.List.{get_or_past}
use Rattle.std.proofs.lemmas.List.Folds.{Any-from_list_any}
use Rattle.cha_board.specs.Squares.{squares}
use Rattle.cha_board.specs.SquareSets.{set_of, empty_set, has_square, set_with, set_joined, is_subset}
use Rattle.cha_board.proofs.Identity.{if_at, if_from}
use Rattle.cha_board.proofs.SetLaws.{length-set_of, has-set_of, same_squares}
use Rattle.cha_board.proofs.Scans.{length_squares, square_at, any_square_at, all_squares_at, each_square}

-- where some square passes a test, there is one
pub some_square : (p : ℕ → Bool) → list_any p squares ≡ true → (s : ℕ) × (s < 64) × (p s ≡ true)
some_square p h =
    let a = Any-from_list_any p squares h in
    let n = length_squares in
    let small : a.0 < 64 = omega (arith, a.2) in
    let P : ℕ → Type 0 = λ x. p x ≡ true in
    (a.0, small, subst P (sym a.3 ∙ square_at a.0 a.1 small) a.4)

-- where two tests follow from each other, they agree
pub same_test : (a b : Bool) → (a ≡ true → b ≡ true) → (b ≡ true → a ≡ true) → a ≡ b
same_test true true h k = refl
same_test true false h k = (let e = h refl in cc)
same_test false true h k = (let e = k refl in cc)
same_test false false h k = refl

-- the set of a test has the squares of the board that pass
pub in_set_of : (p : ℕ → Bool) (u : ℕ) → has_square (set_of p) u ≡ true → (u < 64) × (p u ≡ true)
in_set_of p u h =
    elim (cases_lt u 64) [
      | inl small ↦ (small, sym (has-set_of p u small) ∙ h)
      | inr past ↦ absurd (both_ways (has_square (set_of p) u) (get_or_past (set_of p) u false (omega (arith, length-set_of p, past))) h)
    ]

-- the empty set has no square
pub in_empty : (u : ℕ) → has_square empty_set u ≡ false
in_empty u = false_from_ne_true (has_square empty_set u) (λ h. let k = in_set_of (λ _. false) u h in let f = k.1 in cc)

pub in_joined : (a b : List Bool) (u : ℕ) → has_square (set_joined a b) u ≡ true → (has_square a u ≡ true) ⊎ (has_square b u ≡ true)
unfolding set_joined
in_joined a b u h = or_cases (has_square a u) (has_square b u) (in_set_of (λ s. has_square a s || has_square b s) u h).1

pub joined_left : (a b : List Bool) (u : ℕ) → u < 64 → has_square a u ≡ true → has_square (set_joined a b) u ≡ true
unfolding set_joined
joined_left a b u small h = has-set_of (λ s. has_square a s || has_square b s) u small ∙ or_left (has_square a u) (has_square b u) h

pub joined_right : (a b : List Bool) (u : ℕ) → u < 64 → has_square b u ≡ true → has_square (set_joined a b) u ≡ true
unfolding set_joined
joined_right a b u small h = has-set_of (λ s. has_square a s || has_square b s) u small ∙ or_right (has_square a u) (has_square b u) h

-- the set of one square
pub in_single : (at u : ℕ) → has_square (set_with empty_set at) u ≡ true → u ≡ at
unfolding set_with
in_single at u h =
    let k = in_set_of (λ s. (s == at) || has_square empty_set s) u h in
    elim (or_cases (u == at) (has_square empty_set u) k.1) [
      | inl e ↦ eqb-true u at e
      | inr none ↦ absurd (both_ways (has_square empty_set u) (in_empty u) none)
    ]

pub single_has : (at : ℕ) → at < 64 → has_square (set_with empty_set at) at ≡ true
unfolding set_with
single_has at small = has-set_of (λ s. (s == at) || has_square empty_set s) at small ∙ or_left (at == at) (has_square empty_set at) (eq-eqb at at refl)

implied_from : (a b : Bool) → (a && not b) ≡ false → (not a || b) ≡ true
implied_from true true h = refl
implied_from true false h = cc
implied_from false b h = refl

pub subset_at : (a b : List Bool) → is_subset a b ≡ true → (u : ℕ) → u < 64 → has_square a u ≡ true → has_square b u ≡ true
unfolding is_subset
subset_at a b h u small = if_at (has_square a u) (has_square b u) (all_squares_at (λ s. not (has_square a s) || has_square b s) u h small)

pub subset_from : (a b : List Bool) → ((u : ℕ) → u < 64 → has_square a u ≡ true → has_square b u ≡ true) → is_subset a b ≡ true
unfolding is_subset
subset_from a b each = each_square (λ s. not (has_square a s) || has_square b s) (λ s small. if_from (has_square a s) (has_square b s) (each s small))

-- a list of 64 truth values is the set of its squares
pub set_is : (a : List Bool) → length a ≡ 64 → a ≡ set_of (has_square a)
set_is a width = same_squares a (set_of (has_square a)) width (length-set_of (has_square a)) (λ s small. sym (has-set_of (has_square a) s small))

-- where a set is not a part of another, it has a square that the other has not
pub outside : (a b : List Bool) → is_subset a b ≡ false → (u : ℕ) × (u < 64) × (has_square a u ≡ true) × (has_square b u ≡ false)
unfolding is_subset
outside a b h =
    let lacks = λ (s : ℕ). has_square a s && not (has_square b s) in
    elim (cases_Bool (list_any lacks squares)) [
      | inl some ↦ (
          let k = some_square lacks some in
          let both = and_parts (has_square a k.0) (not (has_square b k.0)) k.2 in
          (k.0, k.1, both.0, not-true (has_square b k.0) both.1))
      | inr none ↦ (
          let all : list_all (λ s. not (has_square a s) || has_square b s) squares ≡ true = each_square (λ s. not (has_square a s) || has_square b s) (λ s small.
          implied_from (has_square a s) (has_square b s) (false_from_ne_true (lacks s) (λ yes'. both_ways (list_any lacks squares) none (any_square_at lacks s small yes')))) in
          absurd (both_ways (list_all (λ s. not (has_square a s) || has_square b s) squares) h all))
    ]

-- a set with one more square has that and what it had
pub has-set_with : (set : List Bool) (at s : ℕ) → length set ≡ 64 → at < 64 → has_square (set_with set at) s ≡ ((s == at) || has_square set s)
unfolding set_with
has-set_with squares at s width small =
    let test = λ (s : ℕ). (s == at) || has_square squares s in
    elim (cases_lt s 64) [
      | inl inside ↦ has-set_of test s inside
      | inr past ↦ (
          let long = length-set_of test in
          let ne : (s == at) ≡ false = ne_eqb s at (λ e. omega (arith, e, past, small)) in
          get_or_past (set_of test) s false (omega (arith, long, past)) ∙ sym (rw (ne, get_or_past squares s false (omega (arith, width, past))) refl))
    ]

-- two sets joined have what either has
pub has-set_joined : (a b : List Bool) (s : ℕ) → length a ≡ 64 → length b ≡ 64 → has_square (set_joined a b) s ≡ (has_square a s || has_square b s)
unfolding set_joined
has-set_joined a b s long long' =
    let test = λ (s : ℕ). has_square a s || has_square b s in
    elim (cases_lt s 64) [
      | inl inside ↦ has-set_of test s inside
      | inr past ↦ (
          let wide = length-set_of test in
          get_or_past (set_of test) s false (omega (arith, wide, past))
          ∙ sym (rw (get_or_past a s false (omega (arith, long, past)), get_or_past b s false (omega (arith, long', past))) refl))
    ]
