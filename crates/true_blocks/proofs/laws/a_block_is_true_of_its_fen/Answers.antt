use Rattle.true_blocks.proofs.Shown.{shows_truth}
use Rattle.true_blocks.proofs.laws.a_block_is_true_of_its_fen.Goals as goal

pub returns : goal.returns
returns c = shows_truth
