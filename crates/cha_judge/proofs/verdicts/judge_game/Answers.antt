use Rattle.std.proofs.Common.{refl}
use Rattle.cha_outcome.specs.Outcomes.{item_of}
use Rattle.cha_judge.proofs.verdicts.judge_game.Goals as goal

pub returns-clause-answers : goal.returns-clause-answers
unfolding item_of
returns-clause-answers g c = (refl, c.in-Ok.ensures.sound)
