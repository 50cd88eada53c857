use Rattle.std.proofs.Common.{◌∙◌}
use Rattle.cha_board.proofs.Shifted.{moved_north}
use Rattle.cha_board.proofs.sets.SquareSet.north.Goals as goal

pub returns : goal.returns
returns c =
    c.from_bits.ensures ∙ moved_north c.bits.result c.args.self c.bits.ensures.shown
