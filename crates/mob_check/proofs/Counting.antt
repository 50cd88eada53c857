-- Squares that are each given another man are no more than these men, and can be given so where they are no more.
use Rattle.std.proofs.Common.{◌≡◌, ℕ, ◌<◌, ◌≤◌, ◌==◌, ◌⊎◌, Bool, true, false, cond, List, [], ◌∷◌, length, Option, Some, None, refl, sym, subst, ◌∙◌, arith, inl, inr}
use Rattle.std.specs.List.{Contains}
use Rattle.std.proofs.lemmas.Bool.{cases_Bool, eqb-true, eqb-false}
use Rattle.cha_list.specs.Distinct.{AreDistinct}
use Rattle.cha_board.specs.Squares.{squares}
use Rattle.cha_board.specs.SquareSets.{has_square, squares_in}
use Rattle.cha_board.proofs.SetLaws.{squares_are}
use Rattle.cha_moves.proofs.Apart.{removed, filtered_apart, numbers_apart}
use Rattle.cha_moves.proofs.Contained.{not_in_nothing, Contains-cons_cases, Contains-cons_here, Contains-cons_there, Contains-filter_parts, Contains-squares_small}

-- the squares of a set differ, and each of them is in it
pub squares_apart : (set : List Bool) → AreDistinct (squares_in set)
squares_apart set =
    let D : List ℕ → Type 0 = λ xs. AreDistinct xs in
    filtered_apart (has_square set) squares (subst D (sym squares_are) (numbers_apart 0 64))

pub in_listed : (set : List Bool) (n : ℕ) → Contains (squares_in set) n → (n < 64) × (has_square set n ≡ true)
in_listed set n there =
    let both = Contains-filter_parts (has_square set) squares n there in
    (Contains-squares_small n both.0, both.1)

-- what is given to each of these squares is another of the men: there are as many
pub counts : (left men : List ℕ) (f : ℕ → Option ℕ) → AreDistinct left → ((n : ℕ) → Contains left n → (o : ℕ) × (f n ≡ Some o) × Contains men o)
    → ((n m o : ℕ) → f n ≡ Some o → f m ≡ Some o → n ≡ m) → length left ≤ length men
unfolding AreDistinct
counts [] men f d each once = omega arith
counts (x ∷ xs) men f d each once =
    let first = each x (Contains-cons_here x xs x refl) in
    let r = removed men first.0 first.2 in
    let P : ℕ → Type 0 = λ y. Contains xs y in
    let rest = counts xs r.0 f d.1 (λ n there.
    let more = each n (Contains-cons_there x xs n there) in
    let F : ℕ → Type 0 = λ o. f n ≡ Some o in
    (more.0, more.1, r.2 more.0 more.2 (λ same. d.0 (subst P (sym (once x n first.0 first.1 (subst F (sym same) more.1))) there)))) once in
    let size = r.1 in
    omega (arith, rest, size)

-- which man each of these squares is given
pub record Given (left men : List ℕ) : Type 0 where
  pub f : ℕ → Option ℕ
  pub each : (n : ℕ) → Contains left n → (o : ℕ) × (f n ≡ Some o)
  pub inside : (n o : ℕ) → f n ≡ Some o → Contains men o
  pub once : (n m o : ℕ) → f n ≡ Some o → f m ≡ Some o → n ≡ m

no_given : (o : ℕ) → None ≡ Some o → ⊥
no_given o e = cc

given_cases : (b : Bool) (y : ℕ) (x : Option ℕ) (o : ℕ) → cond b (Some y) x ≡ Some o → ((b ≡ true) × (y ≡ o)) ⊎ ((b ≡ false) × (x ≡ Some o))
given_cases true y x o e = inl (refl, cc)
given_cases false y x o e = inr (refl, e)

given_first : (b : Bool) (y : ℕ) (x : Option ℕ) → b ≡ true → cond b (Some y) x ≡ Some y
given_first true y x e = refl
given_first false y x e = cc

given_later : (b : Bool) (y : ℕ) (x : Option ℕ) → b ≡ false → cond b (Some y) x ≡ x
given_later true y x e = cc
given_later false y x e = refl

-- where they are no more than the men, each is given another
pub given : (left men : List ℕ) → AreDistinct men → length left ≤ length men → Given left men
unfolding AreDistinct
given [] men d few = record {
  f = λ n. None;
  each = λ n there. absurd (not_in_nothing n there);
  inside = λ n o e. absurd (no_given o e);
  once = λ n m o e g. absurd (no_given o e);
}
given (x ∷ xs) [] d few = absurd (omega (arith, few))
given (x ∷ xs) (y ∷ ys) d few =
    let r = given xs ys d.1 (omega (arith, few)) in
    let f = λ (n : ℕ). cond (n == x) (Some y) (r.f n) in
    record {
      f = f;
      each = λ n there.
          elim (cases_Bool (n == x)) [
            | inl same ↦ (y, given_first (n == x) y (r.f n) same)
            | inr other ↦ elim (Contains-cons_cases x xs n there) [
              | inl e ↦ absurd (eqb-false n x other (sym e))
              | inr later ↦ (let g = r.each n later in (g.0, given_later (n == x) y (r.f n) other ∙ g.1))
            ]
          ];
      inside = λ n o e.
          elim (given_cases (n == x) y (r.f n) o e) [
            | inl h ↦ Contains-cons_here y ys o h.1
            | inr h ↦ Contains-cons_there y ys o (r.inside n o h.1)
          ];
      once = λ n m o e g.
          let P : ℕ → Type 0 = λ z. Contains ys z in
          elim (given_cases (n == x) y (r.f n) o e) [
            | inl h ↦ elim (given_cases (m == x) y (r.f m) o g) [
              | inl k ↦ eqb-true n x h.0 ∙ sym (eqb-true m x k.0)
              | inr k ↦ absurd (d.0 (subst P (sym h.1) (r.inside m o k.1)))
            ]
            | inr h ↦ elim (given_cases (m == x) y (r.f m) o g) [
              | inl k ↦ absurd (d.0 (subst P (sym k.1) (r.inside n o h.1)))
              | inr k ↦ r.once n m o h.1 k.1
            ]
          ];
    }
