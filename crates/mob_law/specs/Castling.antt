-- Sets for which all rules of closed sets hold but perhaps those of castling (this project).
use Rattle.cha_board.specs.Board.{Board}
use Rattle.mob_sets.specs.Mobility.{Sets}
use Rattle.mob_law.specs.Closed.{Begins, PiecesMove, PawnsStep, PawnsDoubleStep, PawnsCapture}

pub record IsClosedButForCastling (p : Board) (s : Sets) : Type 0 where
  pub begins : Begins p s
  pub pieces_move : PiecesMove p s
  pub pawns_step : PawnsStep p s
  pub pawns_double_step : PawnsDoubleStep p s
  pub pawns_capture : PawnsCapture p s
