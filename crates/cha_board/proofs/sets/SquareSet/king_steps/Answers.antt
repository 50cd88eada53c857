use Rattle.std.proofs.Common.{◌≡◌, length}
use Rattle.cha_board.proofs.Pulls.{here, sides, up, down, either, pull_here, pull_up, pull_down, pull_joined, pull_sides, width_of, king_stepped}
use Rattle.cha_board.proofs.sets.SquareSet.king_steps.Goals as goal

pub returns : goal.returns
returns c =
    let a = c.args.self in
    let long : length a ≡ 64 = width_of a c.bits-number.result c.bits-number.ensures.shown in
    let beside = pull_sides a c.east.result c.west.result c.joined-beside.result long c.east.ensures c.west.ensures c.joined-beside.ensures in
    let row = pull_joined a c.joined-beside.result a c.joined-row.result sides here beside (pull_here a long) c.joined-row.ensures in
    let high = pull_up a c.joined-row.result c.north.result (either sides here) row c.north.ensures in
    let low = pull_down a c.joined-row.result c.south.result (either sides here) row c.south.ensures in
    let first = pull_joined a c.joined-beside.result c.north.result c.joined.result sides (up (either sides here)) beside high c.joined.ensures in
    let all = pull_joined a c.joined.result c.south.result c.joined-2.result (either sides (up (either sides here))) (down (either sides here)) first low c.joined-2.ensures in
    king_stepped a c.joined-2.result all
