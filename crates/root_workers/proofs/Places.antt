-- What holds at each place of a list, from its first value and those behind it.
use Rattle.std.proofs.Common.{◌≡◌, ℕ, zero, suc, ◌+◌, ◌<◌, List, ◌∷◌, length, slice_index_or, sym, ap, subst, arith}

-- of one list
module _ {T : Type 0} (P : ℕ → T → Type 0) (from : ℕ) (x : T) (xs all : List T) (whole : all ≡ x ∷ xs) (each : (k : ℕ) (d : T) → k < length all → P (from + k) (slice_index_or all k d)) where
  pub first_of : P from x
  first_of =
      let long = ap length whole in
      let place : from + 0 ≡ from = omega arith in
      subst (λ n. P n x) place (subst (λ l. P (from + 0) (slice_index_or l 0 x)) whole (each 0 x (omega (arith, long))))

  pub others_of : (k : ℕ) (d : T) → k < length xs → P (from + 1 + k) (slice_index_or xs k d)
  others_of k d less =
      let long = ap length whole in
      let place : from + suc k ≡ from + 1 + k = omega arith in
      subst (λ n. P n (slice_index_or xs k d)) place
      (subst (λ l. P (from + suc k) (slice_index_or l (suc k) d)) whole (each (suc k) d (omega (arith, long, less))))

-- of a list and what became of it
module _ {T : Type 0} (R : ℕ → T → T → Type 0) (from : ℕ) (x y : T) (xs ys : List T) (here : R from x y) (rest : (k : ℕ) (d : T) → k < length xs → R (from + 1 + k) (slice_index_or xs k d) (slice_index_or ys k d)) where
  at_each : (k : ℕ) (d : T) → k < length (x ∷ xs) → R (from + k) (slice_index_or (x ∷ xs) k d) (slice_index_or (y ∷ ys) k d)
  at_each zero d less =
      let place : from ≡ from + 0 = omega arith in
      subst (λ n. R n x y) place here
  at_each (suc k) d less =
      let place : from + 1 + k ≡ from + suc k = omega arith in
      subst (λ n. R n (slice_index_or xs k d) (slice_index_or ys k d)) place (rest k d (omega (arith, less)))

  pub at_all : (all : List T) → all ≡ x ∷ xs → (k : ℕ) (d : T) → k < length all → R (from + k) (slice_index_or all k d) (slice_index_or (y ∷ ys) k d)
  at_all all whole k d less =
      let long = ap length whole in
      subst (λ l. R (from + k) (slice_index_or l k d) (slice_index_or (y ∷ ys) k d)) (sym whole) (at_each k d (omega (arith, long, less)))

-- behind the last value of a list there is none
pub none_behind : {T : Type 0} (R : ℕ → T → T → Type 0) (from : ℕ) (xs ys : List T) → length xs ≡ 0
    → (k : ℕ) (d : T) → k < length xs → R (from + 1 + k) (slice_index_or xs k d) (slice_index_or ys k d)
none_behind R from xs ys none k d less = absurd (omega (arith, none, less))
