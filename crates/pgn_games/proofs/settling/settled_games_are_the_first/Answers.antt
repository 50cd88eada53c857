use Rattle.pgn_games.proofs.Settled.{settled_there, settled_same}
use Rattle.pgn_games.proofs.settling.settled_games_are_the_first.Goals as goal

pub returns-clause-there : goal.returns-clause-there
returns-clause-there c = λ bytes rest. settled_there c.settled_tokens_are_the_first.ensures bytes rest

pub returns-clause-same : goal.returns-clause-same
returns-clause-same c = λ bytes rest. settled_same c.settled_tokens_are_the_first.ensures bytes rest
