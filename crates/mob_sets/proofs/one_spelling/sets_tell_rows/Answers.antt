use Rattle.mob_sets.proofs.Canonical.{same_sets}
use Rattle.mob_sets.proofs.one_spelling.sets_tell_rows.Goals as goal

pub returns : goal.returns
returns c = same_sets
