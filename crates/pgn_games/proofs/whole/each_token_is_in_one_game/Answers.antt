use Rattle.pgn_games.proofs.EachToken.{none_lost, none_empty}
use Rattle.pgn_games.proofs.whole.each_token_is_in_one_game.Goals as goal

pub returns-clause-none_lost : goal.returns-clause-none_lost
returns-clause-none_lost c = none_lost

pub returns-clause-none_empty : goal.returns-clause-none_empty
returns-clause-none_empty c = none_empty
