use Rattle.pgn_games.proofs.Told.{fault_told}
use Rattle.pgn_games.proofs.summary.Summary.fault.Goals as goal

pub returns : goal.returns
returns c =
    fault_told _ _ _ _ _ _ _ _ c.self.invariant.0 _ _ _ c.self.invariant.1 _ c.self.view_is _ _ _ _ _ _ _ _ _ _ _ _ _ _ c.bad_token.ensures c.is_open.ensures c.where_caused.ensures c.where_caused-2.ensures c.other_game.ensures
    c.where_caused-3.ensures c.start_refused.ensures c.items.ensures c.where_caused-4.ensures c.or.ensures c.or-2.ensures c.or-3.ensures c.or-4.ensures c.or-5.ensures
