use Rattle.true_blocks.proofs.Meaning.{means}
use Rattle.true_blocks.proofs.laws.sound_decisions_mean.Goals as goal

pub returns : goal.returns
returns c = means
