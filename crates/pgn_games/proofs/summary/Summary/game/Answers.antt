use Rattle.pgn_games.proofs.Told.{game_told}
use Rattle.pgn_games.proofs.summary.Summary.game.Goals as goal

pub returns : goal.returns
returns c =
    game_told _ _ _ _ _ _ _ _ c.self.invariant.0 _ _ _ c.self.invariant.1 _ c.self.view_is _ _ _ _ _ _ c.started-start.ensures c.unwrap_or-recorded.ensures c.forfeited-forfeit.ensures c.flag_fell-flag_fell.ensures c.before_fault-before_fault.ensures c.fault-fault.ensures
