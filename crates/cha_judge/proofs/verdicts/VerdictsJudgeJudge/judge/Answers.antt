use Rattle.std.proofs.Common.{sym}
use Rattle.cha_outcome.specs.Outcomes.{item_of, HasSoundVerdicts}
use Rattle.cha_judge.proofs.verdicts.VerdictsJudgeJudge.judge.Goals as goal

pub returns-in-RefusedLine-clause-answers : goal.returns-in-RefusedLine-clause-answers
unfolding item_of HasSoundVerdicts
returns-in-RefusedLine-clause-answers g c = (sym c.in-RefusedLine.is, tt)

pub returns-in-UnreadableGame-clause-answers : goal.returns-in-UnreadableGame-clause-answers
unfolding item_of HasSoundVerdicts
returns-in-UnreadableGame-clause-answers g c = (sym c.in-UnreadableGame.is, tt)
