use Rattle.pgn_games.proofs.Told.{none_before, before_told}
use Rattle.pgn_games.proofs.summary.Summary.before_fault.Goals as goal

pub returns-then-has_bad_tag : goal.returns-then-has_bad_tag
returns-then-has_bad_tag c = none_before _ _ c.has_bad_tag.ensures c.if-has_bad_tag.true

pub returns : goal.returns
returns c = before_told c.self.inside.told _ _ _ c.self.view_is c.has_bad_tag.ensures c.if-has_bad_tag.false c.self.invariant.3
