-- Numbers of the command words.
use Rattle.std.proofs.Common.{◌≡◌, ℕ, ◌<◌, ◌≤◌, ◌^◌, Bool, true, false, nat_le, if◌then◌else◌, List, [], ◌∷◌, length, get_or, Some, None, Result, Ok, Err, refl, sym, ap, ◌∙◌, arith}
use Rattle.std.specs.Str.{all_ascii_digits}
use Rattle.std.specs.Str.Parse.{digits_value, ParsesUnsigned}
use Rattle.std.specs.Result.{OkIff}
use Rattle.std.specs.Bool.{Decides}
use Rattle.std.proofs.lemmas.Str.Parse.{IsNumeralModel, numerals_by_value, tells_all_ascii_digits, parse_plain}
use Rattle.std.proofs.lemmas.Bool.{and_parts}
use Rattle.std.proofs.lemmas.Bool.Decides.{nat_tests}
use Rattle.cha_words.specs.Language.{is_number, number}

-- what the test says
pub record IsNumber (least most : ℕ) (word : List ℕ) : Type 0 where
  pub some : 1 ≤ length word
  pub few : length word ≤ 20
  pub digits : all_ascii_digits word ≡ true
  pub low : least ≤ digits_value 10 word
  pub high : digits_value 10 word ≤ most

pub own : IsNumeralModel (λ ds. all_ascii_digits ds ≡ true) (digits_value 10)
own = numerals_by_value (λ ds. all_ascii_digits ds ≡ true) tells_all_ascii_digits

pub is_number_says : (least most : ℕ) (word : List ℕ) → is_number least most word ≡ true → IsNumber least most word
unfolding is_number
is_number_says least most word e =
    let h4 = and_parts _ (nat_le (digits_value 10 word) most) e in
    let h3 = and_parts _ (nat_le least (digits_value 10 word)) h4.0 in
    let h2 = and_parts _ (all_ascii_digits word) h3.0 in
    let h1 = and_parts (nat_le 1 (length word)) (nat_le (length word) 20) h2.0 in
    let a = h1.0 in
    let b = h1.1 in
    let c = h3.1 in
    let d = h4.1 in
    record { some = grind (arith, nat_tests); few = grind (arith, nat_tests); digits = h2.1; low = grind (arith, nat_tests); high = grind (arith, nat_tests) }

pub says_is_number : (least most : ℕ) (word : List ℕ) → IsNumber least most word → is_number least most word ≡ true
unfolding is_number
says_is_number least most word h =
    let a : nat_le 1 (length word) ≡ true = grind (arith, nat_tests, h.some) in
    let b : nat_le (length word) 20 ≡ true = grind (arith, nat_tests, h.few) in
    let c : nat_le least (digits_value 10 word) ≡ true = grind (arith, nat_tests, h.low) in
    let d : nat_le (digits_value 10 word) most ≡ true = grind (arith, nat_tests, h.high) in
    rw (a, b, h.digits, c, d) refl

by_test : (b : Bool) (n m : ℕ) → (if b then Some n else None) ≡ Some m → (b ≡ true) × (n ≡ m)
by_test true n m e = (refl, cc)
by_test false n m e = cc

pub number_in_range : (least most : ℕ) (word : List ℕ) (n : ℕ) → number least most word ≡ Some n → (least ≤ n) × (n ≤ most)
unfolding number
number_in_range least most word n e =
    let h = by_test (is_number least most word) (digits_value 10 word) n e in
    let says = is_number_says least most word h.0 in
    let same = h.1 in
    (omega (arith, says.low, same), omega (arith, says.high, same))

otherwise : (b : Bool) (n : ℕ) → (b ≡ true → ⊥) → (if b then Some n else None) ≡ None
otherwise true n h = absurd (h refl)
otherwise false n h = refl

pub no_number : (least most : ℕ) (word : List ℕ) → (IsNumber least most word → ⊥) → number least most word ≡ None
unfolding number
no_number least most word h = otherwise (is_number least most word) (digits_value 10 word) (λ e. h (is_number_says least most word e))

pub is_its_number : (least most : ℕ) (word : List ℕ) → IsNumber least most word → number least most word ≡ Some (digits_value 10 word)
unfolding number
is_its_number least most word h = let e = says_is_number least most word h in rw e refl

pub plus_is_no_digit : (word : List ℕ) → get_or word 0 0 ≡ 43 → 1 ≤ length word → all_ascii_digits word ≡ true → ⊥
plus_is_no_digit [] e some h = omega (arith, some)
plus_is_no_digit (b ∷ bs) e some h = let t = rw e at h in cc

-- a text that was read as a number
pub record WasRead (word : List ℕ) (n : ℕ) : Type 0 where
  pub digits : all_ascii_digits word ≡ true
  pub some : 0 < length word
  pub value : n ≡ digits_value 10 word

ok_read : {E : Type 0} (word : List ℕ) (r : Result ℕ E) (n : ℕ) → OkIff r ((all_ascii_digits word ≡ true) × (0 < length word) × (digits_value 10 word < 2 ^ 64)) (digits_value 10 word) → r ≡ Ok n → WasRead word n
ok_read word (Ok x) n h e = record { digits = h.0.0; some = h.0.1; value = cc }
ok_read word (Err x) n h e = cc

pub was_read : {E : Type 0} (word : List ℕ) (r : Result ℕ E) (n : ℕ) → ParsesUnsigned 64 10 word r → (get_or word 0 0 ≡ 43 → ⊥) → r ≡ Ok n → WasRead word n
was_read word r n h plain e = ok_read word r n (parse_plain own 64 word r h plain) e

err_read : {E : Type 0} (word : List ℕ) (r : Result ℕ E) (x : E) → OkIff r ((all_ascii_digits word ≡ true) × (0 < length word) × (digits_value 10 word < 2 ^ 64)) (digits_value 10 word) → r ≡ Err x → (all_ascii_digits word ≡ true) × (0 < length word) × (digits_value 10 word < 2 ^ 64) → ⊥
err_read word (Ok y) x h e = cc
err_read word (Err y) x h e = h

pub was_not_read : {E : Type 0} (least most : ℕ) (word : List ℕ) (r : Result ℕ E) (x : E) → ParsesUnsigned 64 10 word r → (get_or word 0 0 ≡ 43 → ⊥) → r ≡ Err x → most < 2 ^ 64 → number least most word ≡ None
was_not_read least most word r x h plain e small = no_number least most word (λ is.
    let some = is.some in
    let high = is.high in
    err_read word r x (parse_plain own 64 word r h plain) e (is.digits, omega (arith, some), omega (arith, high, small)))

pub read_below : (least most : ℕ) (word : List ℕ) (n : ℕ) → WasRead word n → n < least → number least most word ≡ None
read_below least most word n h below = no_number least most word (λ is. let low = is.low in let value = h.value in omega (arith, low, value, below))

pub read_above : (least most : ℕ) (word : List ℕ) (n : ℕ) → WasRead word n → most < n → number least most word ≡ None
read_above least most word n h above = no_number least most word (λ is. let high = is.high in let value = h.value in omega (arith, high, value, above))

pub read_inside : (least most : ℕ) (word : List ℕ) (n : ℕ) → WasRead word n → length word ≤ 20 → least ≤ n → n ≤ most → number least most word ≡ Some n
read_inside least most word n h few low high =
    let value = h.value in
    let some = h.some in
    let is : IsNumber least most word = record { some = omega (arith, some); few = few; digits = h.digits; low = omega (arith, value, low); high = omega (arith, value, high) } in
    is_its_number least most word is ∙ ap Some (sym value)

pub no_plus : (word : List ℕ) (b : Bool) → Decides b (get_or word 0 0 ≡ 43) → b ≡ false → get_or word 0 0 ≡ 43 → ⊥
no_plus word b h e plus = let t = h.1 plus in cc

pub plus_no_number : (least most : ℕ) (word : List ℕ) → get_or word 0 0 ≡ 43 → number least most word ≡ None
plus_no_number least most word plus = no_number least most word (λ is. plus_is_no_digit word plus is.some is.digits)
