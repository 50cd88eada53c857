use Rattle.std.proofs.Common.{◌≡◌, length}
use Rattle.cha_board.proofs.Pulls.{here, sides, up, down, either, pull_here, pull_up, pull_down, pull_joined, pull_sides, width_of}
use Rattle.mob_check.proofs.Spreads.{rook_spreads}
use Rattle.mob_check.proofs.single_steps.straight_steps.Goals as goal

pub returns : goal.returns
returns c = λ side.
    let a = c.args.from in
    let long : length a ≡ 64 = width_of a c.bits-number.result c.bits-number.ensures.shown in
    let beside = pull_sides a c.east.result c.west.result c.joined-beside.result long c.east.ensures c.west.ensures c.joined-beside.ensures in
    let high = pull_up a a c.north.result here (pull_here a long) c.north.ensures in
    let low = pull_down a a c.south.result here (pull_here a long) c.south.ensures in
    let column = pull_joined a c.north.result c.south.result c.joined.result (up here) (down here) high low c.joined.ensures in
    rook_spreads side a c.joined-2.result (pull_joined a c.joined.result c.joined-beside.result c.joined-2.result (either (up here) (down here)) sides column beside c.joined-2.ensures)
