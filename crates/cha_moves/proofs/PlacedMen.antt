-- Men of positions that are told man by man.
use Rattle.std.proofs.Common.{ℕ, List, [], ◌∷◌, replicate, Option, Some, None, slice_set}
use Rattle.cha_board.specs.declared.men.Color.{Color}
use Rattle.cha_board.specs.declared.men.Kind.{Kind}
use Rattle.cha_board.specs.declared.men.Man.{Man}

-- a man on a square
pub record Placed : Type 0 where
  pub square : ℕ
  pub man : Man

abbrev pub at : ℕ → Color → Kind → Placed
at s c k = record { square = s; man = record { color = c; kind = k } }

-- the men of the squares named, and no others
abbrev pub men_of : List Placed → List (Option Man)
men_of [] = replicate 64 None
men_of (placed ∷ rest) = slice_set (men_of rest) placed.square (Some placed.man)
