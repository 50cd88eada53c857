-- Sets of squares, as what is done to their bits.
use Rattle.std.proofs.Common.{◌≡◌, ℕ, ◌*◌, ◌-◌, ◌/◌, ◌%◌, ◌^◌, ◌<◌, min, max, zero, suc, Bool, true, false, not, ◌&&◌, ◌||◌, ◌==◌, if◌then◌else◌, List, refl, sym, ap, ◌∙◌, arith, inl, inr}
use Rattle.std.specs.Int.{bit_at, bit_not}
use Rattle.std.specs.Int.RustNames.{bit_or}
use lib.Bits.{bit_and}
use mir.Syntax.{w64}
use Rattle.std.proofs.lemmas.Bool.{cases_eq, cases_lt, eq-eqb, ne_eqb, false_from_ne_true}
use Rattle.std.proofs.lemmas.Nat.Bits.{bit_at-zero, bit_at-lt, bit_at_above, same_from_bits, shr_and_one, bit_at_or, bit_at_and, bit_at_not, bit_at_set_same, bit_at_set_other, bit_at_clear_same, bit_at_clear_other}
use Rattle.cha_board.specs.SquareSets.{has_square, set_of_bits, bits_of_set, set_with, set_without, set_placed, set_joined, set_common, set_minus, is_subset}
use Rattle.cha_board.proofs.SetLaws.{same_set, has-set_of, bits_of_set-set_of_bits}
use Rattle.cha_board.proofs.Scans.{all_squares_at, each_square}

-- a square is in the set of a number's bits where its bit is 1
pub shown_at : (n s : ℕ) → s < 64 → has_square (set_of_bits n) s ≡ (bit_at n s == 1)
shown_at n s small = has-set_of (λ s. bit_at n s == 1) s small

pub shown_has : (n s : ℕ) → s < 64 → (bit_and (n / 2 ^ s) 1 == 1) ≡ has_square (set_of_bits n) s
shown_has n s small = ap (λ x. x == 1) (shr_and_one n s) ∙ sym (shown_at n s small)

greater_bit : (a b : ℕ) → a < 2 → b < 2 → (max a b == 1) ≡ ((a == 1) || (b == 1))
greater_bit zero zero _ _ = refl
greater_bit zero (suc zero) _ _ = refl
greater_bit (suc zero) zero _ _ = refl
greater_bit (suc zero) (suc zero) _ _ = refl
greater_bit zero (suc (suc b)) _ small = absurd (omega arith)
greater_bit (suc zero) (suc (suc b)) _ small = absurd (omega arith)
greater_bit (suc (suc a)) b small _ = absurd (omega arith)

pub shown_joined : (a b : ℕ) → set_of_bits (bit_or a b) ≡ set_joined (set_of_bits a) (set_of_bits b)
unfolding set_joined
shown_joined a b =
    same_set (λ s. bit_at (bit_or a b) s == 1) (λ s. has_square (set_of_bits a) s || has_square (set_of_bits b) s) (λ s small.
    rw (bit_at_or a b s, shown_at a s small, shown_at b s small) (greater_bit (bit_at a s) (bit_at b s) (bit_at-lt a s) (bit_at-lt b s)))

pub shown_with : (n at : ℕ) → at < 64 → set_of_bits (bit_or n (1 * 2 ^ at % 2 ^ 64)) ≡ set_with (set_of_bits n) at
unfolding set_with
shown_with n at small =
    same_set (λ s. bit_at (bit_or n (1 * 2 ^ at % 2 ^ 64)) s == 1) (λ s. (s == at) || has_square (set_of_bits n) s) (λ s inside.
    elim (cases_eq s at) [
      | inl e ↦ rw (e, eq-eqb at at refl, bit_at_set_same w64 n at small) refl
      | inr ne ↦ rw (ne_eqb s at ne, shown_at n s inside, bit_at_set_other w64 n at small s ne) refl
    ])

pub shown_without : (n at : ℕ) → at < 64 → set_of_bits (bit_and n (bit_not w64 (1 * 2 ^ at % 2 ^ 64))) ≡ set_without (set_of_bits n) at
unfolding set_without
shown_without n at small =
    same_set (λ s. bit_at (bit_and n (bit_not w64 (1 * 2 ^ at % 2 ^ 64))) s == 1) (λ s. not (s == at) && has_square (set_of_bits n) s) (λ s inside.
    elim (cases_eq s at) [
      | inl e ↦ rw (e, eq-eqb at at refl, bit_at_clear_same w64 n at small) refl
      | inr ne ↦ rw (ne_eqb s at ne, shown_at n s inside, bit_at_clear_other w64 n at small s inside ne) refl
    ])

pub both_bits : (a b : ℕ) → a < 2 → b < 2 → (min a b == 1) ≡ ((a == 1) && (b == 1))
both_bits zero zero _ _ = refl
both_bits zero (suc zero) _ _ = refl
both_bits zero (suc (suc b)) _ small = absurd (omega arith)
both_bits (suc zero) zero _ _ = refl
both_bits (suc zero) (suc zero) _ _ = refl
both_bits (suc zero) (suc (suc b)) _ small = absurd (omega arith)
both_bits (suc (suc a)) b small _ = absurd (omega arith)

pub shown_common : (a b : ℕ) → set_of_bits (bit_and a b) ≡ set_common (set_of_bits a) (set_of_bits b)
unfolding set_common
shown_common a b =
    same_set (λ s. bit_at (bit_and a b) s == 1) (λ s. has_square (set_of_bits a) s && has_square (set_of_bits b) s) (λ s small.
    rw (bit_at_and a b s, shown_at a s small, shown_at b s small) (both_bits (bit_at a s) (bit_at b s) (bit_at-lt a s) (bit_at-lt b s)))

bit_outside : (a b s : ℕ) → b < 2 ^ 64 → s < 64 → bit_at (bit_and a (bit_not w64 b)) s ≡ min (bit_at a s) (1 - bit_at b s)
bit_outside a b s bound small = bit_at_and a (bit_not w64 b) s ∙ ap (λ x. min (bit_at a s) x) (bit_at_not w64 b s bound small)

one_bit_only : (a b : ℕ) → a < 2 → b < 2 → (min a (1 - b) == 1) ≡ ((a == 1) && not (b == 1))
one_bit_only zero zero _ _ = refl
one_bit_only zero (suc zero) _ _ = refl
one_bit_only zero (suc (suc b)) _ small = absurd (omega arith)
one_bit_only (suc zero) zero _ _ = refl
one_bit_only (suc zero) (suc zero) _ _ = refl
one_bit_only (suc zero) (suc (suc b)) _ small = absurd (omega arith)
one_bit_only (suc (suc a)) b small _ = absurd (omega arith)

pub shown_minus : (a b : ℕ) → b < 2 ^ 64 → set_of_bits (bit_and a (bit_not w64 b)) ≡ set_minus (set_of_bits a) (set_of_bits b)
unfolding set_minus
shown_minus a b bound =
    same_set (λ s. bit_at (bit_and a (bit_not w64 b)) s == 1) (λ s. has_square (set_of_bits a) s && not (has_square (set_of_bits b) s)) (λ s small.
    rw (bit_outside a b s bound small, shown_at a s small, shown_at b s small) (one_bit_only (bit_at a s) (bit_at b s) (bit_at-lt a s) (bit_at-lt b s)))

lesser_bit : (a b : ℕ) → a < 2 → b < 2 → min a (1 - b) ≡ 0 → (not (a == 1) || (b == 1)) ≡ true
lesser_bit zero b _ _ none = refl
lesser_bit (suc zero) zero _ _ none = absurd (omega (arith, none))
lesser_bit (suc zero) (suc zero) _ _ none = refl
lesser_bit (suc zero) (suc (suc b)) _ small none = absurd (omega arith)
lesser_bit (suc (suc a)) b small _ none = absurd (omega arith)

no_lesser_bit : (a b : ℕ) → a < 2 → b < 2 → (not (a == 1) || (b == 1)) ≡ true → min a (1 - b) ≡ 0
no_lesser_bit zero b _ _ test = omega arith
no_lesser_bit (suc zero) zero _ _ test = cc
no_lesser_bit (suc zero) (suc b) _ _ test = omega arith
no_lesser_bit (suc (suc a)) b small _ test = absurd (omega arith)

test_of_bits : (a b s : ℕ) → s < 64 → (not (has_square (set_of_bits a) s) || has_square (set_of_bits b) s) ≡ (not (bit_at a s == 1) || (bit_at b s == 1))
test_of_bits a b s small = rw (shown_at a s small, shown_at b s small) refl

none_outside : (a b : ℕ) → b < 2 ^ 64 → bit_and a (bit_not w64 b) ≡ 0 → is_subset (set_of_bits a) (set_of_bits b) ≡ true
unfolding is_subset
none_outside a b bound none =
    each_square (λ s. not (has_square (set_of_bits a) s) || has_square (set_of_bits b) s) (λ s small.
    let zero_here : bit_at (bit_and a (bit_not w64 b)) s ≡ 0 = ap (λ n. bit_at n s) none ∙ bit_at-zero s in
    test_of_bits a b s small ∙ lesser_bit (bit_at a s) (bit_at b s) (bit_at-lt a s) (bit_at-lt b s) (sym (bit_outside a b s bound small) ∙ zero_here))

outside_none : (a b : ℕ) → a < 2 ^ 64 → b < 2 ^ 64 → is_subset (set_of_bits a) (set_of_bits b) ≡ true → bit_and a (bit_not w64 b) ≡ 0
unfolding is_subset
outside_none a b bound bound' inside =
    same_from_bits (bit_and a (bit_not w64 b)) 0 (λ s.
    elim (cases_lt s 64) [
      | inl small ↦ (
          let test = all_squares_at (λ s. not (has_square (set_of_bits a) s) || has_square (set_of_bits b) s) s inside small in
          bit_outside a b s bound' small ∙ no_lesser_bit (bit_at a s) (bit_at b s) (bit_at-lt a s) (bit_at-lt b s) (sym (test_of_bits a b s small) ∙ test) ∙ sym (bit_at-zero s))
      | inr past ↦ (
          let none : bit_at a s ≡ 0 = bit_at_above a 64 s bound past in
          bit_at_and a (bit_not w64 b) s ∙ omega (arith, none) ∙ sym (bit_at-zero s))
    ])

pub shown_within : (a b : ℕ) → a < 2 ^ 64 → b < 2 ^ 64 → (bit_and a (bit_not w64 b) == 0) ≡ is_subset (set_of_bits a) (set_of_bits b)
shown_within a b bound bound' =
    elim (cases_eq (bit_and a (bit_not w64 b)) 0) [
      | inl none ↦ eq-eqb (bit_and a (bit_not w64 b)) 0 none ∙ sym (none_outside a b bound' none)
      | inr some ↦ ne_eqb (bit_and a (bit_not w64 b)) 0 some ∙ sym (false_from_ne_true (is_subset (set_of_bits a) (set_of_bits b)) (λ inside. some (outside_none a b bound bound' inside)))
    ]

-- the numbers of two sets, compared
pub same_numbers : (a b : ℕ) (x y : List Bool) (r : Bool) → r ≡ (a == b) → set_of_bits a ≡ x → set_of_bits b ≡ y → a < 2 ^ 64 → b < 2 ^ 64 → r ≡ (bits_of_set x == bits_of_set y)
same_numbers a b x y r e shown shown' bound bound' =
    let f : bits_of_set x ≡ a = ap bits_of_set (sym shown) ∙ bits_of_set-set_of_bits a bound in
    let g : bits_of_set y ≡ b = ap bits_of_set (sym shown') ∙ bits_of_set-set_of_bits b bound' in
    rw (f, g) e

either_way : (x h : Bool) → (x || h) ≡ (if x then true else h)
either_way true h = refl
either_way false h = refl

neither_way : (x h : Bool) → (not x && h) ≡ (if x then false else h)
neither_way true h = refl
neither_way false h = refl

-- a square put in, and one put out
pub put_in : (set : List Bool) (at : ℕ) → set_with set at ≡ set_placed set at true
unfolding set_with set_placed
put_in set at =
    same_set (λ s. (s == at) || has_square set s) (λ s. if s == at then true else has_square set s) (λ s _. either_way (s == at) (has_square set s))

pub put_out : (set : List Bool) (at : ℕ) → set_without set at ≡ set_placed set at false
unfolding set_without set_placed
put_out set at =
    same_set (λ s. not (s == at) && has_square set s) (λ s. if s == at then false else has_square set s) (λ s _. neither_way (s == at) (has_square set s))
