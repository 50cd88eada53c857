-- Every explored position can be reached.
use Rattle.mob_law.proofs.bound.explored_are_reached.Goals as goal
use Rattle.mob_law.proofs.Exploring.{explored_positions}

pub returns : goal.returns
returns c = explored_positions
