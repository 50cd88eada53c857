use Rattle.mob_sets.specs.Rows.{sets_of}
use Rattle.mob_solve.specs.Reaching.{sets_in}
use Rattle.mob_solve.proofs.Entered.{least_entered}
use Rattle.mob_solve.proofs.closure.least_closed_sets.Goals as goal

pub returns : goal.returns
returns c =
    least_entered c.args.position.now (sets_in c.grown.result) (sets_of c.in_ok-sets.sets) c.in_ok-sets.ensures.all c.in_ok-sets.ensures.inside c.grown.ensures
