-- The search to one ply.
use Rattle.std.proofs.Common.{◌≡◌, ℕ, ◌-◌, ◌<◌, [], ◌∷◌, arith}
use Rattle.cha_board.specs.declared.men.Color.{Color}
use Rattle.cha_board.specs.Men.{other_color}
use Rattle.cha_board.specs.Board.{Board}
use Rattle.cha_moves.specs.Step.{Move}
use Rattle.cha_moves.specs.Ends.{IsMated, IsMatingLine, HasNoMateWithin}
use Rattle.helpmate.specs.Counted.{CountsPositions}
use Rattle.helpmate.proofs.Counting.{from_no_move, all_counted}

-- one position is expanded
pub one_expanded : (q : Board) (d left : ℕ) → d ≡ 1 → 0 < left → CountsPositions q d (left - (left - 1))
one_expanded q d left last some = all_counted q d left (left - 1) [] (from_no_move q (d - 1) (left - 1 - (left - 1)) (omega arith)) (omega arith) (omega arith)

-- where there is no mate on the board and no move mates, there is none within one ply
pub none_next : (q : Board) (w : Color) → (IsMated q (other_color w) → ⊥) → ((m : Move) → IsMatingLine q w (m ∷ []) → ⊥) → HasNoMateWithin q w 1
none_next q w running none [] few line = running line
none_next q w running none (m ∷ []) few line = none m line
none_next q w running none (m ∷ n ∷ rest) few line = absurd (omega arith)
