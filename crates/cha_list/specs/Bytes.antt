-- Classes of bytes, by the ASCII codes of their characters.
use Rattle.std.specs.Prelude.{ℕ, ◌==◌, Bool, not, ◌&&◌, ◌||◌, nat_le}
use Rattle.cha_list.specs.declared.classes.Class.{Class}
use Rattle.cha_list.specs.declared.classes.Class.TheVariants.{Blank, NotBlank, InLine, NotLineFeed, Digit, Letter}

-- a number from low to high
abbrev pub is_from : ℕ → ℕ → ℕ → Bool
is_from low high b = nat_le low b && nat_le b high

-- 0 to 9
abbrev pub is_digit : ℕ → Bool
is_digit b = is_from 48 57 b

-- A to Z, a to z
abbrev pub is_letter : ℕ → Bool
is_letter b = is_from 65 90 b || is_from 97 122 b

-- a byte is of a class
unfoldable pub in_class : Class → ℕ → Bool
in_class Blank b = (b == 32) || (b == 9)
in_class NotBlank b = not ((b == 32) || (b == 9))
in_class InLine b = not ((b == 13) || (b == 10))
in_class NotLineFeed b = not (b == 10)
in_class Digit b = is_digit b
in_class Letter b = is_letter b
