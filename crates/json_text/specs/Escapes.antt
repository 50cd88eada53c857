-- How bytes stand in a string of JSON (RFC 8259, section 7).
use Rattle.std.specs.Prelude.{ℕ, ◌<◌, ◌/◌, ◌%◌, Bool, not, ◌&&◌, ◌==◌, nat_lt, nat_le, if◌then◌else◌, List, [], ◌∷◌, ◌++◌, flat_map, ⊤}
use Rattle.std.specs.Char.{digit_char}

-- a byte that stands for itself: 0x20 to 0x7E, but for the quotation mark and the reverse solidus
abbrev pub is_plain : ℕ → Bool
is_plain b = nat_le 32 b && nat_lt b 127 && not (b == 34) && not (b == 92)

-- a byte, or its number in two hexadecimal digits behind `\u00`
unfoldable pub escaped_byte : ℕ → List ℕ
escaped_byte b = if is_plain b then b ∷ [] else 92 ∷ 117 ∷ 48 ∷ 48 ∷ digit_char (b / 16) ∷ digit_char (b % 16) ∷ []

abbrev pub escaped : List ℕ → List ℕ
escaped bytes = flat_map escaped_byte bytes

-- a string, between its quotation marks
abbrev pub quoted : List ℕ → List ℕ
quoted bytes = 34 ∷ (escaped bytes ++ 34 ∷ [])

-- a list of bytes
abbrev pub AreBytes : List ℕ → Type 0
AreBytes [] = ⊤
AreBytes (b ∷ bytes) = (b < 256) × AreBytes bytes
