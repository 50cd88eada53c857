use Rattle.std.proofs.Common.{arith}
use Rattle.helpmate_list.proofs.Dealing.{parts_done}
use Rattle.helpmate_list.proofs.spread.OneByOneSpread.parts.Goals as goal

pub returns : goal.returns
returns c =
    let over = c.loop-number-test.false in
    let most = c.loop-number.auto.number-end in
    parts_done c.args.task.now c.args.moves.now c.args.count c.loop-number.number c.loop-number.parts.items c.loop-number.invariant (omega arith)
