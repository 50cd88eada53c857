use Rattle.std.proofs.Common.{refl, sym}
use Rattle.cha_outcome.specs.Outcomes.{item_of, HasShortestMates}
use Rattle.cha_judge.proofs.mates.MatesJudgeJudge.judge.Goals as goal

pub returns-in-Ok-clause-answers : goal.returns-in-Ok-clause-answers
unfolding item_of HasShortestMates
returns-in-Ok-clause-answers g c = (sym c.in-Position.is, (refl, c.in-Ok.ensures))

pub returns-in-RefusedLine-clause-answers : goal.returns-in-RefusedLine-clause-answers
unfolding item_of HasShortestMates
returns-in-RefusedLine-clause-answers g c = (sym c.in-RefusedLine.is, tt)

pub returns-in-UnreadableGame-clause-answers : goal.returns-in-UnreadableGame-clause-answers
unfolding item_of HasShortestMates
returns-in-UnreadableGame-clause-answers g c = (sym c.in-UnreadableGame.is, tt)
