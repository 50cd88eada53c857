-- A set of squares is its number: what the sets of `sets` need to be seen as lists.
use Rattle.std.specs.Prelude.{ℕ, ◌==◌, ◌<◌, ◌^◌, Bool, true, false, List, [], ◌∷◌, length, refl, if◌then◌else◌}
use Rattle.std.specs.Int.{bit_at}
use Rattle.std.proofs.Common.{◌≡◌, ◌+◌, ◌*◌, ◌/◌, ◌∙◌, sym, ap, arith, zero, suc, zero-add, inl, inr}
use Rattle.std.proofs.lemmas.Bool.{cases_lt}
use Rattle.std.proofs.lemmas.List.{get_or_past}
use Rattle.std.proofs.lemmas.List.FromFn.{length-map-range_with_len, get_or-map-range_with_len}
use Rattle.std.proofs.lemmas.Nat.Bits.{bit_at-zero, bit_at-suc, bit_at_lowest, bit_at-lt, bit_at_above, same_from_bits}
use Rattle.cha_board.specs.Squares.{squares}
use Rattle.cha_board.specs.SquareSets.{set_of, has_square, set_of_bits, bits_of_set}

-- a truth value as a bit
abbrev pub one_if : Bool → ℕ
one_if true = 1
one_if false = 0

pub length-set_of : (p : ℕ → Bool) → length (set_of p) ≡ 64
unfolding squares
length-set_of p = length-map-range_with_len p 0 64

-- a square is in the set of a test where it passes
pub has-set_of : (p : ℕ → Bool) (s : ℕ) → s < 64 → has_square (set_of p) s ≡ p s
unfolding squares
has-set_of p s small = get_or-map-range_with_len p 0 64 s s false small (zero-add s)

bit_of_first : (b : Bool) (r : ℕ) → bit_at ((if b then 1 else 0) + 2 * r) 0 ≡ one_if b
bit_of_first true r = bit_at_lowest (1 + 2 * r) ∙ omega arith
bit_of_first false r = bit_at_lowest (0 + 2 * r) ∙ omega arith

halved : (b : Bool) (r : ℕ) → ((if b then 1 else 0) + 2 * r) / 2 ≡ r
halved true r = omega arith
halved false r = omega arith

-- the bits of a set's number are its squares
pub bit_at-bits_of_set : (set : List Bool) (s : ℕ) → bit_at (bits_of_set set) s ≡ one_if (has_square set s)
unfolding bits_of_set
bit_at-bits_of_set [] s = bit_at-zero s
bit_at-bits_of_set (b ∷ bs) zero = bit_of_first b (bits_of_set bs)
bit_at-bits_of_set (b ∷ bs) (suc s) =
    bit_at-suc (bits_of_set (b ∷ bs)) s ∙ ap (λ n. bit_at n s) (halved b (bits_of_set bs)) ∙ bit_at-bits_of_set bs s

-- a bit is the truth value of its test
bit_is_test : (x : ℕ) → x < 2 → one_if (x == 1) ≡ x
bit_is_test zero small = refl
bit_is_test (suc zero) small = refl
bit_is_test (suc (suc x)) small = omega arith

-- the number of the set of a number's bits is that number
pub bits_of_set-set_of_bits : (n : ℕ) → n < 2 ^ 64 → bits_of_set (set_of_bits n) ≡ n
bits_of_set-set_of_bits n small =
    same_from_bits (bits_of_set (set_of_bits n)) n (λ s.
    bit_at-bits_of_set (set_of_bits n) s ∙ elim (cases_lt s 64) [
      | inl inside ↦ ap one_if (has-set_of (λ s. bit_at n s == 1) s inside) ∙ bit_is_test (bit_at n s) (bit_at-lt n s)
      | inr past ↦ ap one_if (get_or_past (set_of_bits n) s false (omega (arith, length-set_of (λ s. bit_at n s == 1), past))) ∙ sym (bit_at_above n 64 s small past)
    ])
