use Rattle.adjudicate.proofs.OrderRuns.{not_begun}
use Rattle.adjudicate.proofs.alone.by_itself.Goals as goal

pub returns-in_default : goal.returns-in_default
returns-in_default g c = not_begun c.args.order.now _ _ _ _ _
