-- Only queens beside the king.
use Rattle.mob_small.specs.Lone.{is_queen}
use Rattle.mob_small.proofs.SetsOfMen.{only_within}
use Rattle.mob_small.proofs.lone_men.has_only_queens.Goals as goal

pub returns : goal.returns
returns c =
    only_within c.args.position.now.men c.args.of (is_queen c.args.of) c.known.ensures.size c.within.result (rw (← c.non_kings.ensures, ← c.men.ensures) c.within.ensures)
