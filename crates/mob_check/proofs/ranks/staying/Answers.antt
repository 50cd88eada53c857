use Rattle.cha_board.specs.SquareSets.{set_minus}
use Rattle.std.proofs.Common.{◌∙◌}
use Rattle.mob_check.specs.SingleSteps.{stays}
use Rattle.mob_check.proofs.Going.{out_by}
use Rattle.mob_check.proofs.ranks.staying.Goals as goal

pub returns : goal.returns
unfolding set_minus
returns c = c.minus.ensures ∙ out_by c.args.set c.changing.result (stays c.args.side c.args.kind) c.changing.ensures
