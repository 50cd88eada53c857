use Rattle.std.proofs.Common.{◌==◌, length, ap, ◌∙◌}
use Rattle.std.specs.Int.{bit_at}
use Rattle.cha_board.proofs.SetLaws.{length-set_of}
use Rattle.mob_sets.proofs.sets.Sets.of_rows.Goals as goal

pub invariant_of-result : goal.invariant_of-result
invariant_of-result c = (c.requires, ap length c.bits-number.ensures.shown ∙ length-set_of (λ s. bit_at c.bits-number.result s == 1))
