use Rattle.pgn_games.proofs.KeptTokens.{few_last}
use Rattle.pgn_games.proofs.cutter.Cutter.finish.Goals as goal

pub gather-requires-clause-few : goal.gather-requires-clause-few
gather-requires-clause-few c = few_last _ _ _ _ _ _ c.requires.last
