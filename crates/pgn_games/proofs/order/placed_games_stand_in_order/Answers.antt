use Rattle.pgn_games.proofs.InOrder.{placed_games_order}
use Rattle.pgn_games.proofs.order.placed_games_stand_in_order.Goals as goal

pub returns : goal.returns
returns c = placed_games_order
