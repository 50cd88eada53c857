use Rattle.std.proofs.Common.{sym}
use Rattle.cha_outcome.specs.Outcomes.{item_of, TellsMoves}
use Rattle.cha_judge.proofs.plies.PliesJudgeJudge.judge.Goals as goal

pub returns-clause-answers : goal.returns-clause-answers
unfolding item_of TellsMoves
returns-clause-answers c = (sym c.in-Replayed.is, rw c.in-Replayed.is at c.requires.asked)
