-- Numbers as digits, written and read.
use Rattle.std.proofs.Common.{◌≡◌, ℕ, zero, suc, ◌+◌, ◌*◌, ◌/◌, ◌%◌, ◌^◌, ◌<◌, ◌≤◌, nat_lt, true, false, List, [], ◌∷◌, ◌++◌, decimal, ap, ◌∙◌, arith, inl, inr}
use Rattle.std.proofs.Math.Nat.{pow-succ', pow-le-pow_right, mul-le-mul_left}
use Rattle.std.proofs.lemmas.Bool.{cases_lt}
use Rattle.std.proofs.lemmas.Bool.Decides.{nat_tests}
use Rattle.std.proofs.lemmas.Fmt.{decimal_by_steps}
use Rattle.std.proofs.lemmas.List.Sums.{fold-append}
use Rattle.cert_text.specs.Digits.{hex_digit, hex_digits, digit_value, value_of}

-- one more digit
pub value_more : (base : ℕ) (digits : List ℕ) (b : ℕ) → value_of base (digits ++ b ∷ []) ≡ value_of base digits * base + digit_value b
unfolding value_of
value_more base digits b = fold-append (λ value b. value * base + digit_value b) 0 digits (b ∷ [])

-- a number of so many digits stays small with one more
pub small_more : (base number value n : ℕ) → base ≤ 16 → value < 16 → number < 16 ^ n → number * base + value < 16 ^ (n + 1)
small_more base number value n low digit small =
    let power : 16 ^ suc n ≡ 16 * 16 ^ n = pow-succ' 16 n in
    let next : 16 ^ (n + 1) ≡ 16 ^ suc n = ap (λ k. 16 ^ k) (omega arith) in
    let most : number * base ≤ number * 16 = mul-le-mul_left number low in
    omega (arith, power, next, most, small, digit)

pub fits_word : (number n : ℕ) → n ≤ 16 → number < 16 ^ n → number < 2 ^ 64
fits_word number n few small =
    let power : 16 ^ n ≤ 16 ^ 16 = pow-le-pow_right (omega arith) few in
    omega (arith, power, small)

decimal_digit_read : (n : ℕ) → n < 10 → digit_value (48 + n) ≡ n
decimal_digit_read n small =
    let low : nat_lt (48 + n) 97 ≡ true = grind (arith, nat_tests) in
    rw low (omega arith)

one_digit : (n : ℕ) → n < 10 → value_of 10 ((48 + n) ∷ []) ≡ n
unfolding value_of
one_digit n small = rw (decimal_digit_read n small) (omega arith)

more_digits : (n : ℕ) (ds : List ℕ) → 10 ≤ n → value_of 10 ds ≡ n / 10 → value_of 10 (ds ++ ((48 + n % 10) ∷ [])) ≡ n
more_digits n ds big e = value_more 10 ds (48 + n % 10) ∙ rw (e, decimal_digit_read (n % 10) (omega arith)) (omega arith)

-- the digits of a number are read as the number
pub decimal_read : (n : ℕ) → n < 2 ^ 64 → value_of 10 (decimal n) ≡ n
decimal_read n small = decimal_by_steps (λ m ds. value_of 10 ds ≡ m) one_digit more_digits n small

hex_digit_read : (d : ℕ) → d < 16 → digit_value (hex_digit d) ≡ d
hex_digit_read d small =
    elim (cases_lt d 10) [
      | inl low ↦ (
          let test : nat_lt d 10 ≡ true = grind (arith, nat_tests) in
          let digit : nat_lt (d + 48) 97 ≡ true = grind (arith, nat_tests) in
          rw (test, digit) (omega arith))
      | inr high ↦ (
          let test : nat_lt d 10 ≡ false = grind (arith, nat_tests) in
          let digit : nat_lt (d + 87) 97 ≡ false = grind (arith, nat_tests) in
          rw (test, digit) (omega arith))
    ]

pub hex_read : (k n : ℕ) → n < 16 ^ k → value_of 16 (hex_digits k n) ≡ n
unfolding hex_digits value_of
hex_read zero n small = omega (arith, small)
hex_read (suc k) n small =
    let power : 16 ^ suc k ≡ 16 * 16 ^ k = pow-succ' 16 k in
    let rest = hex_read k (n / 16) (omega (arith, power, small)) in
    value_more 16 (hex_digits k (n / 16)) (hex_digit (n % 16)) ∙ rw (rest, hex_digit_read (n % 16) (omega arith)) (omega arith)
