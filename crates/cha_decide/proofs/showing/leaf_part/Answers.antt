-- What shows it is a leaf.
use Rattle.cha_decide.proofs.Leaves.{leaf_of_sets, leaf_of_men}
use Rattle.cha_decide.proofs.showing.leaf_part.Goals as goal

pub returns-in-Some : goal.returns-in-Some
returns-in-Some c = leaf_of_sets c.args.position.now c.args.winner c.in_ok-sets.field-0 c.in-Some.sets c.in-Some.is c.in_ok-sets.ensures.closed c.in_ok-sets.ensures.no_mate

pub returns-in-Some-find : goal.returns-in-Some-find
returns-in-Some-find c = leaf_of_men c.args.position.now c.args.winner c.in-Some-find.reason c.in-Some-find.ensures
