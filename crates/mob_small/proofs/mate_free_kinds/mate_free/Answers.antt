-- The table is exact.
use Rattle.mob_small.proofs.Exactness.{table_exact}
use Rattle.mob_small.proofs.mate_free_kinds.mate_free.Goals as goal

pub returns : goal.returns
returns c =
    table_exact c.args.winner c.args.own c.args.other c.requires.own_no_pawn c.requires.own_no_king c.requires.other_no_pawn c.requires.other_no_king c.never_mates.result c.never_mates.ensures
