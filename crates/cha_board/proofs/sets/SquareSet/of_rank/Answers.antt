use Rattle.std.proofs.Common.{◌∙◌}
use Rattle.cha_board.proofs.Shifted.{rank_shown}
use Rattle.cha_board.proofs.sets.SquareSet.of_rank.Goals as goal

pub returns : goal.returns
returns c = c.from_bits.ensures ∙ rank_shown c.args.rank c.requires
