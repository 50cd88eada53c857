-- What the readers of pieces of the first field do to the squares that were read before.
use Rattle.std.specs.Prelude.{◌≡◌, ℕ, Bool, true, false, if◌then◌else◌, List, ◌++◌, length, Option, Some, None, nat_le}
use Rattle.cha_board.specs.declared.men.Man.{Man}

-- the squares that a piece gives were added, or it gives none
abbrev pub Adds : Bool → List (Option Man) → List (Option Man) → Option (List (Option Man)) → Type 0
Adds true old new given = (men : List (Option Man)) × (given ≡ Some men) × (new ≡ old ++ men)
Adds false old new given = given ≡ None

-- squares, if there are at most n
abbrev pub if_room : ℕ → Option (List (Option Man)) → Option (List (Option Man))
if_room n None = None
if_room n (Some men) = if nat_le (length men) n then Some men else None
