-- How a position stands.
use Rattle.std.specs.Prelude.{◌≢◌, if◌then◌else◌, List, [], ◌∷◌}
use Rattle.cha_board.specs.Men.{other_color}
use Rattle.cha_board.specs.Board.{Board, in_check}
use Rattle.cha_moves.specs.Step.{Move}
use Rattle.cha_moves.specs.Moves.{legal}
use Rattle.cha_moves.specs.Ends.{IsMated, IsStalemated}
use Rattle.cha_moves.specs.declared.ends.Standing.{Standing}
use Rattle.cha_moves.specs.declared.ends.Standing.TheVariants.{Mate, Stalemate, Running}

-- with this list of legal moves
unfoldable pub standing_with : Board → List Move → Standing
standing_with q [] = if in_check q.men q.side then Mate (other_color q.side) else Stalemate
standing_with q (m ∷ ms) = Running

-- mate, stalemate, or the game goes on (Laws of Chess, Articles 5.1.1 and 5.2.1)
abbrev pub standing_of : Board → Standing
standing_of q = standing_with q (legal q)

-- a position stands as mate for a winner, as stalemate, or the game goes on
abbrev pub Stands : Board → Standing → Type 0
Stands q (Mate winner) = IsMated q (other_color winner)
Stands q Stalemate = IsStalemated q
Stands q Running = legal q ≢ []
