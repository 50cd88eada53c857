use Rattle.helpmate_list.proofs.Dealing.{none_named, some_named}
use Rattle.helpmate_list.proofs.gather.of_root.Goals as goal

pub loop-behind-preserved : goal.loop-behind-preserved
loop-behind-preserved c = none_named c.args.found.now c.args.root_move c.loop-behind.behind-index c.behind-item.result c.loop-behind.invariant c.loop-behind-test.true c.behind-item.is c.if-behind-root_move.false

pub unreachable-requires : goal.unreachable-requires
unreachable-requires c = some_named c.args.found.now c.args.root_move c.loop-behind.behind-index c.requires c.loop-behind.invariant c.loop-behind-test.false
