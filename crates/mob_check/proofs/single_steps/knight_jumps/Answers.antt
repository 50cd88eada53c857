use Rattle.std.proofs.Common.{◌≡◌, length}
use Rattle.cha_board.proofs.Pulls.{here, sides, up, down, left, right, either, pull_here, pull_up, pull_down, pull_left, pull_right, pull_joined, pull_sides, width_of}
use Rattle.mob_check.proofs.Spreads.{far_sides, knight_spreads}
use Rattle.mob_check.proofs.single_steps.knight_jumps.Goals as goal

pub returns : goal.returns
returns c = λ side.
    let a = c.args.from in
    let long : length a ≡ 64 = width_of a c.bits-number.result c.bits-number.ensures.shown in
    let beside = pull_sides a c.east.result c.west.result c.joined-near.result long c.east.ensures c.west.ensures c.joined-near.ensures in
    let one = pull_right a a c.east-2.result here (pull_here a long) c.east-2.ensures in
    let two = pull_right a c.east-2.result c.east-3.result (right here) one c.east-3.ensures in
    let three = pull_left a a c.west-2.result here (pull_here a long) c.west-2.ensures in
    let four = pull_left a c.west-2.result c.west-3.result (left here) three c.west-3.ensures in
    let far = pull_joined a c.east-3.result c.west-3.result c.joined-far.result (right (right here)) (left (left here)) two four c.joined-far.ensures in
    let n1 = pull_up a c.joined-near.result c.north.result sides beside c.north.ensures in
    let n2 = pull_up a c.north.result c.north-2.result (up sides) n1 c.north-2.ensures in
    let s1 = pull_down a c.joined-near.result c.south.result sides beside c.south.ensures in
    let s2 = pull_down a c.south.result c.south-2.result (down sides) s1 c.south-2.ensures in
    let high = pull_joined a c.north-2.result c.south-2.result c.joined-high.result (up (up sides)) (down (down sides)) n2 s2 c.joined-high.ensures in
    let n3 = pull_up a c.joined-far.result c.north-3.result far_sides far c.north-3.ensures in
    let s3 = pull_down a c.joined-far.result c.south-3.result far_sides far c.south-3.ensures in
    let wide = pull_joined a c.north-3.result c.south-3.result c.joined-wide.result (up far_sides) (down far_sides) n3 s3 c.joined-wide.ensures in
    knight_spreads side a c.joined.result
    (pull_joined a c.joined-high.result c.joined-wide.result c.joined.result (either (up (up sides)) (down (down sides))) (either (up far_sides) (down far_sides)) high wide c.joined.ensures)
