use Rattle.std.proofs.Common.{not, ap, ◌∙◌}
use Rattle.cha_board.proofs.Counting.{pawns_at_ends}
use Rattle.cha_board.proofs.build.pawn_at_end.Goals as goal

pub returns : goal.returns
returns c =
    ap not c.is_empty.ensures
    ∙ pawns_at_ends c.args.men.now c.all_of_kind.result c.of_rank.result c.of_rank-2.result c.joined-ends.result c.common.result
    c.all_of_kind.ensures c.of_rank.ensures c.of_rank-2.ensures c.joined-ends.ensures c.common.ensures
