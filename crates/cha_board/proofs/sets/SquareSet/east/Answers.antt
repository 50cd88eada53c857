use Rattle.cha_board.specs.SquareSets.{set_common}
use Rattle.cha_board.proofs.Shifted.{moved_east}
use Rattle.cha_board.proofs.sets.SquareSet.east.Goals as goal

pub returns : goal.returns
unfolding set_common
returns c =
    moved_east c.bits.result c.args.self c.from_bits.result c.from_bits-all_but_a.result c.common.result c.bits.ensures.shown c.from_bits.ensures c.from_bits-all_but_a.ensures c.common.ensures
