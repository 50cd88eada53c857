use Rattle.mob_check.proofs.Freeing.{comes_are}
use Rattle.mob_check.proofs.goes.comes.Goals as goal

pub returns : goal.returns
returns c =
    comes_are c.args.ground.now c.args.side c.args.kind c.args.from c.entered.result c.staying.result c.entered.ensures c.staying.ensures
