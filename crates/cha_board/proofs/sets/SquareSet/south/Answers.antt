use Rattle.std.proofs.Common.{◌<◌, ◌^◌, ◌∙◌, arith}
use Rattle.cha_board.proofs.Shifted.{moved_south}
use Rattle.cha_board.proofs.sets.SquareSet.south.Goals as goal

pub returns : goal.returns
returns c =
    let bound : c.bits.result < 2 ^ 64 = omega arith in
    c.from_bits.ensures ∙ moved_south c.bits.result c.args.self c.bits.ensures.shown bound
