-- Moves that are legal, each in its turn (this project).
use Rattle.std.specs.Prelude.{◌≡◌, List, [], ◌∷◌, Option, Some, None, ⊤}
use Rattle.std.specs.List.{Contains}
use Rattle.cha_board.specs.Board.{Board}
use Rattle.cha_moves.specs.Step.{Move}
use Rattle.cha_moves.specs.Moves.{after, legal}

-- each move of a line is legal in its turn
abbrev pub AreLegal : Board → List Move → Type 0
AreLegal q [] = ⊤
AreLegal q (m ∷ ms) = Contains (legal q) m × AreLegal (after q m) ms

-- the same from a position that may not be known, and then there are no moves
abbrev pub AreLegalFrom : Option Board → List Move → Type 0
AreLegalFrom None ms = ms ≡ []
AreLegalFrom (Some q) ms = AreLegal q ms
