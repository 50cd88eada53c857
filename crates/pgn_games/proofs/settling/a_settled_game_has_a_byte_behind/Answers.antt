use Rattle.pgn_games.proofs.InOrder.{settled_before}
use Rattle.pgn_games.proofs.Settled.{settled_grow}
use Rattle.pgn_games.proofs.settling.a_settled_game_has_a_byte_behind.Goals as goal

pub returns-clause-behind : goal.returns-clause-behind
returns-clause-behind c = settled_before

pub returns-clause-more : goal.returns-clause-more
returns-clause-more c = settled_grow
