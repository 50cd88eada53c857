use Rattle.std.proofs.Common.{refl}
use Rattle.cha_outcome.specs.Outcomes.{item_of, HasSoundVerdicts}
use Rattle.cha_judge.proofs.verdicts.judge_position.Goals as goal

pub returns-clause-answers : goal.returns-clause-answers
unfolding item_of HasSoundVerdicts
returns-clause-answers g c = λ draws. (
  refl,
  (record { valid = c.known.ensures; sound = c.in-Ok.ensures.sound; complete = c.in-Ok.ensures.complete }, rw c.state-standing.ensures.value at c.status_of-status.ensures),
)
