use Rattle.std.proofs.Common.{sym}
use Rattle.item_batches.proofs.batches.Batches.is_closed.Goals as goal

pub returns : goal.returns
returns g c = rw (sym c.self.view_is) (λ ended works. c.is_closed.ensures ended (c.self.invariant.3.goes_on works))
