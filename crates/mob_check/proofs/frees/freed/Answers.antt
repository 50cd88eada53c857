use Rattle.mob_check.proofs.Freeing.{freed_are}
use Rattle.mob_check.proofs.frees.freed.Goals as goal

pub returns : goal.returns
returns c =
    freed_are c.args.ground.now c.args.origin c.args.side c.args.kind c.args.row c.struck.result c.passed.result c.left.result c.joined.result c.joined-2.result
    c.struck.ensures c.passed.ensures c.left.ensures c.joined.ensures c.joined-2.ensures
