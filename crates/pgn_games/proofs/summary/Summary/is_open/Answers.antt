use Rattle.pgn_games.proofs.Told.{open_by_comment, open_by_depth}
use Rattle.pgn_games.proofs.summary.Summary.is_open.Goals as goal

pub returns-then-self : goal.returns-then-self
returns-then-self c = open_by_comment _ _ _ _ _ _ _ _ c.self.invariant.0 _ c.self.view_is c.if-self.true

pub returns : goal.returns
returns c = open_by_depth _ _ _ _ _ _ _ _ c.self.invariant.0 _ c.self.view_is c.if-self.false
