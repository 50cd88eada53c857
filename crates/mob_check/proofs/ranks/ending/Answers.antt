use Rattle.cha_board.specs.SquareSets.{set_common}
use Rattle.std.proofs.Common.{ℕ, not, ◌∙◌}
use Rattle.mob_check.specs.SingleSteps.{stays}
use Rattle.mob_check.proofs.Going.{kept_by}
use Rattle.mob_check.proofs.ranks.ending.Goals as goal

pub returns : goal.returns
unfolding set_common
returns c = c.common.ensures ∙ kept_by c.args.set c.changing.result (λ (t : ℕ). not (stays c.args.side c.args.kind t)) c.changing.ensures
