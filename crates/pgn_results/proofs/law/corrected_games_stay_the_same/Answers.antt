use Rattle.pgn_results.proofs.SameInOrder.{same_games}
use Rattle.pgn_results.proofs.SameTags.{same_tags}
use Rattle.pgn_results.proofs.law.corrected_games_stay_the_same.Goals as goal

pub returns-clause-games : goal.returns-clause-games
returns-clause-games c = same_games

pub returns-clause-tags : goal.returns-clause-tags
returns-clause-tags c = same_tags
