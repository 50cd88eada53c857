-- The first square of a set, and how many it has.
use Rattle.std.proofs.Common.{◌≡◌, ℕ, ◌+◌, ◌*◌, ◌<◌, ◌≤◌, ◌^◌, zero, suc, Bool, true, false, cond, ◌==◌, List, [], ◌∷◌, length, filter, Some, None, slice_get, count_ones, ◌⊎◌, refl, sym, ap, ◌∙◌, arith, inl, inr}
use Rattle.std.specs.List.{range_with_len}
use Rattle.std.specs.Int.{bit_at, trailing_zeros}
use mir.Syntax.{w64}
use lib.Lanes.{mask_l}
use Rattle.std.proofs.lemmas.Bool.{cases_eq, ne_eqb}
use Rattle.std.proofs.lemmas.Nat.Bits.{bit_at-zero, bit_at-trailing_zeros}
use Rattle.std.proofs.lemmas.List.Sums.{length-filter}
use Rattle.std.proofs.lemmas.Simd.{ones-mask_l}
use Rattle.cha_board.specs.Squares.{squares}
use Rattle.cha_board.specs.SquareSets.{has_square, set_of_bits, bits_of_set, squares_in, has_no_square}
use Rattle.cha_board.proofs.SetLaws.{bits_of_set-set_of_bits, kept_alike, squares_are}
use Rattle.cha_board.proofs.Scans.{any_square_at, no_square}
use Rattle.cha_board.proofs.SetBits.{shown_at}

first_in_range : (p : ℕ → Bool) (a n t : ℕ) → a ≤ t → t < a + n → p t ≡ true → ((k : ℕ) → a ≤ k → k < t → p k ≡ false) → slice_get (filter p (range_with_len a n)) 0 ≡ Some t
first_in_range p a zero t low high here before = absurd (omega arith)
first_in_range p a (suc n) t low high here before =
    elim (cases_eq a t) [
      | inl same ↦ (let there : p a ≡ true = ap p same ∙ here in rw there (ap (λ k. Some k) same))
      | inr other ↦ rw (before a (omega arith) (omega (arith, low, other))) (first_in_range p (a + 1) n t (omega (arith, low, other)) (omega (arith, high)) here (λ k from to. before k (omega (arith, from)) to))
    ]

none_in_range : (p : ℕ → Bool) (a n : ℕ) → ((k : ℕ) → a ≤ k → k < a + n → p k ≡ false) → filter p (range_with_len a n) ≡ []
none_in_range p a zero none = refl
none_in_range p a (suc n) none =
    rw (none a (omega arith) (omega arith)) (none_in_range p (a + 1) n (λ k low high. none k (omega (arith, low)) (omega (arith, high))))

shown_zero : (s : ℕ) → s < 64 → has_square (set_of_bits 0) s ≡ false
shown_zero s small = shown_at 0 s small ∙ ap (λ x. x == 1) (bit_at-zero s)

none_in_list : (p : ℕ → Bool) (n : ℕ) (xs : List ℕ) → xs ≡ range_with_len 0 n → ((k : ℕ) → k < n → p k ≡ false) → slice_get (filter p xs) 0 ≡ None
none_in_list p n xs e none = rw (e, none_in_range p 0 n (λ k _ small. none k (omega (arith, small)))) refl

pub first_none : (n : ℕ) → n ≡ 0 → slice_get (squares_in (set_of_bits n)) 0 ≡ None
first_none n none =
    none_in_list (has_square (set_of_bits n)) 64 squares squares_are (λ s small. shown_at n s small ∙ ap (λ n. bit_at n s == 1) none ∙ ap (λ x. x == 1) (bit_at-zero s))

first_in_list : (p : ℕ → Bool) (n t : ℕ) (xs : List ℕ) → xs ≡ range_with_len 0 n → t < n → p t ≡ true → ((k : ℕ) → k < t → p k ≡ false) → slice_get (filter p xs) 0 ≡ Some t
first_in_list p n t xs e small here before = rw e (first_in_range p 0 n t (omega arith) (omega (arith, small)) here (λ k _ to. before k to))

-- the lowest bit of a number is its set's first square
pub first_some : (n : ℕ) → 0 < n → n < 2 ^ 64 → slice_get (squares_in (set_of_bits n)) 0 ≡ Some (trailing_zeros w64 n)
first_some n some bound =
    let lowest = bit_at-trailing_zeros w64 n some bound in
    let here = shown_at n (trailing_zeros w64 n) lowest.0 ∙ ap (λ x. x == 1) lowest.1 in
    let before = λ (k : ℕ) (to : k < trailing_zeros w64 n). shown_at n k (omega (arith, to, lowest.0)) ∙ ap (λ x. x == 1) (lowest.2 k to) in
    first_in_list (has_square (set_of_bits n)) 64 (trailing_zeros w64 n) squares squares_are lowest.0 here before

pub shown_none : (n : ℕ) → n < 2 ^ 64 → (n == 0) ≡ has_no_square (set_of_bits n)
unfolding has_no_square
shown_none n bound =
    elim (cases_eq n 0) [
      | inl none ↦ rw (none, no_square (has_square (set_of_bits 0)) shown_zero) refl
      | inr some ↦ (
          let lowest = bit_at-trailing_zeros w64 n (omega (arith, some)) bound in
          let here = shown_at n (trailing_zeros w64 n) lowest.0 ∙ ap (λ x. x == 1) lowest.1 in
          rw (ne_eqb n 0 some, any_square_at (has_square (set_of_bits n)) (trailing_zeros w64 n) lowest.0 here) refl)
    ]

number_is_mask : (bs : List Bool) → bits_of_set bs ≡ mask_l bs
unfolding bits_of_set
number_is_mask [] = refl
number_is_mask (b ∷ bs) = ap (λ n. cond b 1 zero + 2 * n) (number_is_mask bs)

kept_in_list : (p q : ℕ → Bool) (n : ℕ) (xs : List ℕ) → xs ≡ range_with_len 0 n → ((k : ℕ) → k < n → p k ≡ q k) → filter p xs ≡ filter q xs
kept_in_list p q n xs e same = rw e (kept_alike p q 0 n (λ k _ small. same k (omega (arith, small))))

-- a number has as many ones as its set has squares
pub counted : (n : ℕ) → n < 2 ^ 64 → count_ones n ≡ length (squares_in (set_of_bits n))
counted n bound =
    let p = λ (s : ℕ). bit_at n s == 1 in
    ap count_ones (sym (bits_of_set-set_of_bits n bound) ∙ number_is_mask (set_of_bits n))
    ∙ ones-mask_l p squares ∙ sym (length-filter p squares)
    ∙ ap length (kept_in_list p (has_square (set_of_bits n)) 64 squares squares_are (λ s small. sym (shown_at n s small)))

first_told : (p : ℕ → Bool) (a s : ℕ) (b : Bool) (rest : List ℕ) → p a ≡ b → slice_get (cond b (a ∷ rest) rest) 0 ≡ Some s
    → ((a ≡ s) × (p a ≡ true)) ⊎ ((p a ≡ false) × (slice_get rest 0 ≡ Some s))
first_told p a s true rest here first = (let same : a ≡ s = cc in inl (same, here))
first_told p a s false rest here first = inr (here, first)

told_of_range : (p : ℕ → Bool) (a n s : ℕ) → slice_get (filter p (range_with_len a n)) 0 ≡ Some s
    → (a ≤ s) × (s < a + n) × (p s ≡ true) × ((k : ℕ) → a ≤ k → k < s → p k ≡ false)
told_of_range p a zero s first = cc
told_of_range p a (suc n) s first =
    elim (first_told p a s (p a) (filter p (range_with_len (a + 1) n)) refl first) [
      | inl found ↦ (omega (arith, found.0), omega (arith, found.0), ap p (sym found.0) ∙ found.1, λ k low before. absurd (omega (arith, found.0, low, before)))
      | inr later ↦ (
          let rest = told_of_range p (a + 1) n s later.1 in (
            omega (arith, rest.0),
            omega (arith, rest.1),
            rest.2,
            λ k low before.
                elim (cases_eq a k) [
                  | inl same ↦ ap p (sym same) ∙ later.0
                  | inr other ↦ rest.3 k (omega (arith, low, other)) before
                ],
          ))
    ]

told_of_list : (p : ℕ → Bool) (n s : ℕ) (xs : List ℕ) → xs ≡ range_with_len 0 n → slice_get (filter p xs) 0 ≡ Some s → (s < n) × (p s ≡ true) × ((k : ℕ) → k < s → p k ≡ false)
told_of_list p n s xs e first =
    let found = told_of_range p 0 n s (rw e at first) in
    (omega (arith, found.1), found.2, λ k before. found.3 k (omega arith) before)

-- the first square of a set is in it, and none before it
pub first_tells : (set : List Bool) (s : ℕ) → slice_get (squares_in set) 0 ≡ Some s → (s < 64) × (has_square set s ≡ true) × ((k : ℕ) → k < s → has_square set k ≡ false)
first_tells set s first = told_of_list (has_square set) 64 s squares squares_are first

none_told : (p : ℕ → Bool) (a : ℕ) (b : Bool) (rest : List ℕ) → p a ≡ b → slice_get (cond b (a ∷ rest) rest) 0 ≡ None → (p a ≡ false) × (slice_get rest 0 ≡ None)
none_told p a true rest here none = cc
none_told p a false rest here none = (here, none)

none_of_range : (p : ℕ → Bool) (a n : ℕ) → slice_get (filter p (range_with_len a n)) 0 ≡ None → (k : ℕ) → a ≤ k → k < a + n → p k ≡ false
none_of_range p a zero none k low high = absurd (omega arith)
none_of_range p a (suc n) none k low high =
    let here = none_told p a (p a) (filter p (range_with_len (a + 1) n)) refl none in
    elim (cases_eq a k) [
      | inl same ↦ ap p (sym same) ∙ here.0
      | inr other ↦ none_of_range p (a + 1) n here.1 k (omega (arith, low, other)) (omega (arith, high))
    ]

none_of_list : (p : ℕ → Bool) (n : ℕ) (xs : List ℕ) → xs ≡ range_with_len 0 n → slice_get (filter p xs) 0 ≡ None → (k : ℕ) → k < n → p k ≡ false
none_of_list p n xs e none k small = none_of_range p 0 n (rw e at none) k (omega arith) (omega (arith, small))

-- a set with no first square has no square
pub none_tells : (set : List Bool) → slice_get (squares_in set) 0 ≡ None → (k : ℕ) → k < 64 → has_square set k ≡ false
none_tells set none k small = none_of_list (has_square set) 64 squares squares_are none k small
