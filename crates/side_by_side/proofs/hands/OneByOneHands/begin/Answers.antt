use Rattle.side_by_side.proofs.Going.{all_stay}
use Rattle.side_by_side.proofs.hands.OneByOneHands.begin.Goals as goal

pub returns-clause-same : goal.returns-clause-same
returns-clause-same c = all_stay c.args._question.now c.args.items.items
