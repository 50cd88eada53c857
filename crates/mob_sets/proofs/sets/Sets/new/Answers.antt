use Rattle.std.proofs.Common.{false}
use Rattle.cha_board.proofs.SetLaws.{length-set_of}
use Rattle.mob_sets.proofs.Keeping.{none_tidy}
use Rattle.mob_sets.proofs.sets.Sets.new.Goals as goal

pub invariant_of-result : goal.invariant_of-result
invariant_of-result c = rw (c.new.ensures.items, c.empty.ensures) (none_tidy, length-set_of (λ _. false))
