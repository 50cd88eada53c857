use Rattle.mob_check.proofs.Freeing.{ends_are}
use Rattle.mob_check.proofs.goes.ends.Goals as goal

pub returns : goal.returns
returns c =
    ends_are c.args.ground.now c.args.side c.args.kind c.args.from c.entered.result c.ending.result c.entered.ensures c.ending.ensures
