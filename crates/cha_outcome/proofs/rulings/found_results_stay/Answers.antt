use Rattle.cha_moves.specs.Standings.{standing_of}
use Rattle.cha_outcome.specs.Rulings.{was_dead}
use Rattle.cha_outcome.proofs.ResultsStay.{mark_stays, unchanged}
use Rattle.cha_outcome.proofs.rulings.found_results_stay.Goals as goal

pub returns : goal.returns
returns c = λ game d scan. unchanged _ _ (mark_stays (standing_of game.last) game.recorded game.forfeit d.white d.black (was_dead game.positions scan))
