use Rattle.pgn_games.proofs.BehindClosed.{joined_games, joined_closed}
use Rattle.pgn_games.proofs.joining.closed_texts_join.Goals as goal

pub returns-clause-games : goal.returns-clause-games
returns-clause-games c = joined_games

pub returns-clause-closed : goal.returns-clause-closed
returns-clause-closed c = joined_closed
