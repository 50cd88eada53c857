use Rattle.std.proofs.Common.{◌==◌, length, ap, ◌∙◌}
use Rattle.std.specs.Int.{bit_at}
use Rattle.cha_board.proofs.SetLaws.{length-set_of}
use Rattle.cert_text.proofs.leaves.set_of.Goals as goal

pub returns-clause-width : goal.returns-clause-width
returns-clause-width c = ap length c.from_bits.ensures ∙ length-set_of (λ s. bit_at c.args.bits s == 1)
