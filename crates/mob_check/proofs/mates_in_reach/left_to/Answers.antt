use Rattle.mob_check.proofs.NextTo.{left_is}
use Rattle.mob_check.proofs.mates_in_reach.left_to.Goals as goal

pub returns : goal.returns
returns c =
    rw (c.minus.ensures, c.joined.ensures, c.squares_near.ensures, c.squares_near-2.ensures) (left_is c.args.struck c.args.king c.args.winner_king)
