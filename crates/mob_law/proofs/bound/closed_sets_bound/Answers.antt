-- The law of mobility sets.
use Rattle.mob_law.proofs.Law.{bounded, static_bounded}
use Rattle.mob_law.proofs.bound.closed_sets_bound.Goals as goal

pub returns-clause-law : goal.returns-clause-law
returns-clause-law c = bounded

pub returns-clause-static_law : goal.returns-clause-static_law
returns-clause-static_law c = static_bounded
