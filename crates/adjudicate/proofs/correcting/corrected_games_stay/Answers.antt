use Rattle.adjudicate.specs.Corrections.{HasSameGames}
use Rattle.adjudicate.proofs.CorrectedGames.{results_of_readable}
use Rattle.adjudicate.proofs.correcting.corrected_games_stay.Goals as goal

pub returns : goal.returns
unfolding HasSameGames
returns c = λ limits draws bytes os all. c.corrected_games_stay_the_same.ensures.games bytes _ (results_of_readable bytes os all.0)
