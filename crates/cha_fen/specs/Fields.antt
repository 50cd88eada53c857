-- The fields of a text (PGN standard, 16.1.3).
use Rattle.std.specs.Prelude.{ℕ, zero, suc, if◌then◌else◌, List, [], ◌∷◌, take}
use Rattle.std.specs.List.{prefix_len}
use Rattle.cha_list.specs.declared.classes.Class.TheVariants.{Blank, NotBlank}
use Rattle.cha_list.specs.Bytes.{in_class}

-- the fields of what is left behind so many bytes, those of a field that was taken
unfoldable pub fields_after : ℕ → List ℕ → List (List ℕ)
fields_after skip [] = []
fields_after (suc skip) (b ∷ bs) = fields_after skip bs
fields_after zero (b ∷ bs) =
    if in_class Blank b then fields_after 0 bs
    else (b ∷ take (prefix_len (in_class NotBlank) bs) bs) ∷ fields_after (prefix_len (in_class NotBlank) bs) bs

-- the fields: the longest runs of bytes other than blanks (one or more blanks between fields, and blanks at the ends: this
-- project; the standard writes one space)
abbrev pub fields : List ℕ → List (List ℕ)
fields bytes = fields_after 0 bytes
