-- The law of what the men alone show.
use Rattle.mob_small.proofs.MenAlone.{bounded}
use Rattle.mob_small.proofs.reasons.reason_bound.Goals as goal

pub returns : goal.returns
returns c = bounded
