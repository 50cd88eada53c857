use Rattle.cha_board.specs.SquareSets.{set_common}
use Rattle.cha_board.proofs.Shifted.{moved_west}
use Rattle.cha_board.proofs.sets.SquareSet.west.Goals as goal

pub returns : goal.returns
unfolding set_common
returns c =
    moved_west c.bits.result c.args.self c.from_bits.result c.from_bits-all_but_h.result c.common.result c.bits.ensures.shown c.from_bits.ensures c.from_bits-all_but_h.ensures c.common.ensures
