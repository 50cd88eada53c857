use Rattle.pgn_games.proofs.KeptTokens.{few_open}
use Rattle.pgn_games.proofs.cutter.Cutter.feed_piece.Goals as goal

pub gather_any-requires-clause-few : goal.gather_any-requires-clause-few
gather_any-requires-clause-few c = few_open _ _ _ _ _ _ _ _ c.loop-self.invariant.is_open
