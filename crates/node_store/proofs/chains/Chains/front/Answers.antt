use Rattle.node_store.proofs.Linking.{front_none, front_some}
use Rattle.node_store.proofs.chains.Chains.front.Goals as goal

pub returns-then-head-eq0 : goal.returns-then-head-eq0
returns-then-head-eq0 c = rw (← c.self.view_is) (front_none c.self.inside.heads c.self.inside.links.items c.args.bucket c.if-head-eq0.true)

pub returns-else-head-eq0 : goal.returns-else-head-eq0
returns-else-head-eq0 c = rw (← c.self.view_is) (front_some c.self.inside.heads c.self.inside.links.items c.args.bucket c.if-head-eq0.false)
