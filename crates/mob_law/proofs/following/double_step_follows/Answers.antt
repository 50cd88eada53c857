-- The rule of the double step follows from that of the single step.
use Rattle.mob_law.proofs.DoubleSteps.{step_twice}
use Rattle.mob_law.proofs.following.double_step_follows.Goals as goal

pub returns : goal.returns
returns c = step_twice
