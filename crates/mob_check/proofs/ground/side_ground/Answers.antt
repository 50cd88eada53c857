use Rattle.mob_check.specs.Grounds.{has_own, side_ground_of}
use Rattle.mob_check.proofs.ground.side_ground.Goals as goal

pub returns : goal.returns
unfolding side_ground_of has_own
returns c = λ s fixed reach.
    λ i. record { men = c.non_kings.ensures i; reach = reach i; guards = c.guarded_squares.ensures s fixed i; target = c.target_squares.ensures i }
