use Rattle.std.proofs.Common.{sym, ◌∙◌, ap}
use Rattle.cha_board.specs.SquareSets.{bits_of_set}
use Rattle.cha_board.proofs.SetLaws.{bits_of_set-set_of_bits}
use Rattle.cha_board.proofs.sets.SquareSet.bits.Goals as goal

pub returns-clause-value : goal.returns-clause-value
returns-clause-value c = sym (ap bits_of_set (sym c.self.view_is) ∙ bits_of_set-set_of_bits c.self.inside.bits c.self.invariant)
