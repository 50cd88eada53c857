use Rattle.std.proofs.Common.{arith}
use Rattle.mob_sets.proofs.Keeping.{loosened}
use Rattle.mob_sets.proofs.sets.Sets.loosen.Goals as goal

pub returns-clause-sets : goal.returns-clause-sets
returns-clause-sets c = rw (c.with-self-inside.ensures, ← c.self.view_is) (loosened c.self.inside.rows.items c.self.inside.loose c.args.origin c.self.invariant.1 (omega arith))
