use Rattle.std.proofs.Common.{◌≡◌, length}
use Rattle.cha_board.proofs.Pulls.{pull_sides, width_of}
use Rattle.mob_check.proofs.Spreads.{pawn_spreads}
use Rattle.mob_check.proofs.single_steps.pawn_captures.Goals as goal

pub returns : goal.returns
returns c =
    let a = c.args.from in
    let long : length a ≡ 64 = width_of a c.bits-number.result c.bits-number.ensures.shown in
    let beside = pull_sides a c.east.result c.west.result c.joined-beside.result long c.east.ensures c.west.ensures c.joined-beside.ensures in
    pawn_spreads c.args.side a c.joined-beside.result c.ahead.result beside c.ahead.ensures
