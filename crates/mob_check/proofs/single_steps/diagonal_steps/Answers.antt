use Rattle.std.proofs.Common.{◌≡◌, length}
use Rattle.cha_board.proofs.Pulls.{sides, up, down, pull_up, pull_down, pull_joined, pull_sides, width_of}
use Rattle.mob_check.proofs.Spreads.{bishop_spreads}
use Rattle.mob_check.proofs.single_steps.diagonal_steps.Goals as goal

pub returns : goal.returns
returns c = λ side.
    let a = c.args.from in
    let long : length a ≡ 64 = width_of a c.bits-number.result c.bits-number.ensures.shown in
    let beside = pull_sides a c.east.result c.west.result c.joined-beside.result long c.east.ensures c.west.ensures c.joined-beside.ensures in
    let high = pull_up a c.joined-beside.result c.north.result sides beside c.north.ensures in
    let low = pull_down a c.joined-beside.result c.south.result sides beside c.south.ensures in
    bishop_spreads side a c.joined.result (pull_joined a c.north.result c.south.result c.joined.result (up sides) (down sides) high low c.joined.ensures)
