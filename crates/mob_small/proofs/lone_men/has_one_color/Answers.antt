-- One of the two colours of squares.
use Rattle.mob_small.proofs.SetsOfMen.{either_square}
use Rattle.mob_small.proofs.lone_men.has_one_color.Goals as goal

pub returns-else-has_bishops_on : goal.returns-else-has_bishops_on
returns-else-has_bishops_on c = either_square c.args.position.now.men c.args.winner c.has_bishops_on.result c.has_bishops_on-else-has_bishops_on.result c.if-has_bishops_on.false c.has_bishops_on.ensures c.has_bishops_on-else-has_bishops_on.ensures
