-- How many positions a round expands (this project).
use Rattle.std.specs.Prelude.{◌≡◌, ℕ, zero, suc}
use Rattle.cha_board.specs.Board.{Board}
use Rattle.cha_moves.specs.Lines.{HasLines}

-- n positions are expanded in a round of a depth: none where the depth is 0, and else there are that many distinct legal lines
-- of fewer moves than the depth
abbrev pub CountsPositions : Board → ℕ → ℕ → Type 0
CountsPositions q zero n = n ≡ 0
CountsPositions q (suc d) n = HasLines q d n
