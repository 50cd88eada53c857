use Rattle.pgn_games.proofs.Opened.{opening_text}
use Rattle.pgn_games.proofs.opening.games_begin_at_the_opening.Goals as goal

pub returns : goal.returns
returns c = opening_text
