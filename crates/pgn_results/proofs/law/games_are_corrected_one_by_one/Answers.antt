use Rattle.pgn_results.proofs.OneByOne.{one_by_one}
use Rattle.pgn_results.proofs.law.games_are_corrected_one_by_one.Goals as goal

pub returns : goal.returns
returns c = one_by_one
