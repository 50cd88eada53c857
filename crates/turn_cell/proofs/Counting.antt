-- How many views live, after a change of one.
use Rattle.std.proofs.Common.{◌≡◌, sym, ap, subst, ℕ, zero, suc, ◌+◌, ◌≤◌, cond, List, [], ◌∷◌, ◌++◌, set, arith, true, refl}
use mathlib.Core.Option.{some, some-injective, some-ne-none}
use lib.ListN.{get_elem?}
use Rattle.turn_cell.specs.Rule.{lives, count_living}
use Rattle.turn_cell.specs.declared.views.View.{View}

module _ {V C R : Type 0} where
  abbrev pub life : View V C R → ℕ
  life v = cond (lives v) 1 0

  pub living_set : (xs : List (View V C R)) (i : ℕ) (a b : View V C R) → get_elem? xs i ≡ some a → count_living (set xs i b) + life a ≡ count_living xs + life b
  living_set [] i a b at = absurd (some-ne-none a (sym at))
  living_set (x ∷ xs) zero a b at = subst (λ y. life b + count_living xs + life y ≡ life x + count_living xs + life b) (some-injective x a at) (omega arith)
  living_set (x ∷ xs) (suc i) a b at = let h = living_set xs i a b at in omega (arith, h)

  pub living_more : (xs : List (View V C R)) (w : View V C R) → count_living (xs ++ w ∷ []) ≡ count_living xs + life w
  living_more [] w = omega arith
  living_more (x ∷ xs) w = let h = living_more xs w in omega (arith, h)

  pub life_one : (v : View V C R) → lives v ≡ true → life v ≡ 1
  life_one v h = ap (λ b. let n : ℕ = cond b 1 0 in n) h

  -- one that lives is counted
  pub living_some : (xs : List (View V C R)) (i : ℕ) (v : View V C R) → get_elem? xs i ≡ some v → lives v ≡ true → 1 ≤ count_living xs
  living_some [] i v at h = absurd (some-ne-none v (sym at))
  living_some (x ∷ xs) zero v at h = let e = ap life (some-injective x v at) in let o = life_one v h in omega (arith, e, o)
  living_some (x ∷ xs) (suc i) v at h = let r = living_some xs i v at h in omega (arith, r)

  -- where the first lives and one lives in all, it is the only one
  pub only_first : (xs : List (View V C R)) (f v : View V C R) (i : ℕ) → get_elem? xs 0 ≡ some f → lives f ≡ true → count_living xs ≡ 1 → get_elem? xs i ≡ some v → lives v ≡ true → i ≡ 0
  only_first [] f v i at h one e l = absurd (some-ne-none f (sym at))
  only_first (x ∷ xs) f v zero at h one e l = refl
  only_first (x ∷ xs) f v (suc i) at h one e l = let a = ap life (some-injective x f at) in let o = life_one f h in let r = living_some xs i v e l in absurd (omega (arith, a, o, r, one))
