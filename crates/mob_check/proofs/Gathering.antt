-- What the squares give one after another.
use Rattle.std.proofs.Common.{◌≡◌, ℕ, ◌+◌, ◌<◌, ◌≤◌, Bool, true, false, ◌||◌, List, length, sym, ap, subst, ◌∙◌, arith, inl, inr}
use Rattle.std.specs.List.{list_any}
use Rattle.std.proofs.lemmas.Bool.{or_cases, or_left, or_right, both_ways, cases_eq}
use Rattle.cha_board.specs.Squares.{squares}
use Rattle.cha_board.specs.SquareSets.{set_of, empty_set, has_square, set_joined}
use Rattle.cha_board.proofs.SetLaws.{length-set_of, has-set_of, same_squares}
use Rattle.cha_board.proofs.Scans.{any_square_at}
use Rattle.cha_board.proofs.Contents.{some_square, same_test}

-- the squares that the first i squares give
pub record Gathers (f : ℕ → ℕ → Bool) (set : List Bool) (i : ℕ) : Type 0 where
  pub width : length set ≡ 64
  pub some : (t : ℕ) → t < 64 → has_square set t ≡ true → (x : ℕ) × (x < i) × (f x t ≡ true)
  pub all : (t : ℕ) → t < 64 → (x : ℕ) → x < i → f x t ≡ true → has_square set t ≡ true

pub gathers_none : (f : ℕ → ℕ → Bool) (set : List Bool) → set ≡ empty_set → Gathers f set 0
gathers_none f set is =
    let P : List Bool → Type 0 = λ x. Gathers f x 0 in
    subst P (sym is) (record {
      width = length-set_of (λ _. false);
      some = λ t small h. absurd (both_ways (has_square empty_set t) (has-set_of (λ _. false) t small) h);
      all = λ t small x less h. absurd (omega (arith, less));
    })

pub gathers_joined : (f : ℕ → ℕ → Bool) (set more new : List Bool) (i : ℕ) → Gathers f set i → ((t : ℕ) → t < 64 → has_square more t ≡ f i t) → new ≡ set_joined set more → Gathers f new (i + 1)
unfolding set_joined
gathers_joined f set more new i g gives is =
    let P : List Bool → Type 0 = λ x. Gathers f x (i + 1) in
    let test = λ (s : ℕ). has_square set s || has_square more s in
    subst P (sym is) (record {
      width = length-set_of test;
      some = λ t small h. (
          elim (or_cases (has_square set t) (has_square more t) (sym (has-set_of test t small) ∙ h)) [
            | inl before ↦ (let k = g.some t small before in (k.0, omega (arith, k.1), k.2))
            | inr now ↦ (i, omega arith, sym (gives t small) ∙ now)
          ]);
      all = λ t small x less h. (
          elim (cases_eq x i) [
            | inl e ↦ has-set_of test t small ∙ or_right (has_square set t) (has_square more t) (gives t small ∙ sym (ap (λ y. f y t) e) ∙ h)
            | inr ne ↦ has-set_of test t small ∙ or_left (has_square set t) (has_square more t) (g.all t small x (omega (arith, less)) h)
          ]);
    })

pub gathers_skipped : (f : ℕ → ℕ → Bool) (set new : List Bool) (i : ℕ) → Gathers f set i → ((t : ℕ) → t < 64 → f i t ≡ false) → new ≡ set → Gathers f new (i + 1)
gathers_skipped f set new i g none is =
    let P : List Bool → Type 0 = λ x. Gathers f x (i + 1) in
    subst P (sym is) (record {
      width = g.width;
      some = λ t small h. (let k = g.some t small h in (k.0, omega (arith, k.1), k.2));
      all = λ t small x less h. (
          elim (cases_eq x i) [
            | inl e ↦ absurd (both_ways (f i t) (none t small) (sym (ap (λ y. f y t) e) ∙ h))
            | inr ne ↦ g.all t small x (omega (arith, less)) h
          ]);
    })

pub gathers_all : (f : ℕ → ℕ → Bool) (set : List Bool) (i : ℕ) → Gathers f set i → 64 ≤ i → i ≤ 64 → set ≡ set_of (λ t. list_any (λ x. f x t) squares)
gathers_all f set i g end below =
    let test = λ (t : ℕ). list_any (λ x. f x t) squares in
    same_squares set (set_of test) g.width (length-set_of test) (λ t small.
    same_test (has_square set t) (has_square (set_of test) t)
    (λ h. let k = g.some t small h in has-set_of test t small ∙ any_square_at (λ x. f x t) k.0 (omega (arith, k.1, below)) k.2)
    (λ h. let k = some_square (λ x. f x t) (sym (has-set_of test t small) ∙ h) in g.all t small k.0 (omega (arith, k.1, end)) k.2))
