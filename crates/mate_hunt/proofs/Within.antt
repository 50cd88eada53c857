-- Mates within one ply.
use Rattle.std.proofs.Common.{[], ◌∷◌, arith}
use Rattle.cha_board.specs.declared.men.Color.{Color}
use Rattle.cha_board.specs.Men.{other_color}
use Rattle.cha_board.specs.Board.{Board}
use Rattle.cha_moves.specs.Step.{Move}
use Rattle.cha_moves.specs.Ends.{IsMated, IsMatingLine, HasNoMateWithin}

-- a list of one move mates by it
pub within_one : (q : Board) (w : Color) → (IsMated q (other_color w) → ⊥) → ((m : Move) → IsMatingLine q w (m ∷ []) → ⊥) → HasNoMateWithin q w 1
within_one q w running none [] few line = running line
within_one q w running none (m ∷ []) few line = none m line
within_one q w running none (m ∷ n ∷ rest) few line = absurd (omega arith)
