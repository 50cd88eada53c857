-- Numbers as digits (this project).
use Rattle.std.specs.Prelude.{ℕ, zero, suc, ◌+◌, ◌*◌, ◌/◌, ◌%◌, nat_lt, if◌then◌else◌, List, [], ◌∷◌, ◌++◌}
use Rattle.std.specs.List.{fold}

-- 0 to 9, then a to f
abbrev pub hex_digit : ℕ → ℕ
hex_digit d = if nat_lt d 10 then d + 48 else d + 87

-- the lowest k hexadecimal digits of a number, the highest of them first
unfoldable pub hex_digits : ℕ → ℕ → List ℕ
hex_digits zero n = []
hex_digits (suc k) n = hex_digits k (n / 16) ++ hex_digit (n % 16) ∷ []

-- what a digit stands for; some number below 16, where a byte is no digit
abbrev pub digit_value : ℕ → ℕ
digit_value b = if nat_lt b 97 then b % 16 else (b + 9) % 16

-- the number of digits to a base
unfoldable pub value_of : ℕ → List ℕ → ℕ
value_of base digits = fold (λ value b. value * base + digit_value b) 0 digits
