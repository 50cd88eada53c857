use Rattle.std.proofs.Common.{arith}
use Rattle.node_store.proofs.Linking.{front_none, front_some, front_within, take_none, lists_take, chained_take}
use Rattle.node_store.proofs.chains.Chains.take.Goals as goal

pub returns-then-head-eq0-clause-name : goal.returns-then-head-eq0-clause-name
returns-then-head-eq0-clause-name c = rw (← c.self.view_is) (front_none c.self.inside.heads c.self.inside.links.items c.args.bucket c.if-head-eq0.true)

pub returns-then-head-eq0-clause-lists : goal.returns-then-head-eq0-clause-lists
returns-then-head-eq0-clause-lists c = rw (← c.self.view_is) (take_none c.self.inside.heads c.self.inside.links.items c.args.bucket c.if-head-eq0.true)

pub index-requires : goal.index-requires
index-requires c = omega (arith, front_within c.self.inside.heads c.self.inside.links.items c.args.bucket c.self.invariant.0 c.if-head-eq0.false, c.self.inside.links.ok.0)

pub invariant_of-self : goal.invariant_of-self
invariant_of-self c = (chained_take c.self.inside.heads c.self.inside.links.items c.args.bucket c.self.invariant.0 c.index.result.now c.if-head-eq0.false c.index.ensures, c.self.invariant.1)

pub returns-clause-name : goal.returns-clause-name
returns-clause-name c = rw (← c.self.view_is) (front_some c.self.inside.heads c.self.inside.links.items c.args.bucket c.if-head-eq0.false)

pub returns-clause-lists : goal.returns-clause-lists
returns-clause-lists c = rw (← c.self.view_is) (lists_take c.self.inside.heads c.self.inside.links.items c.args.bucket c.self.invariant.0 c.index.result.now c.if-head-eq0.false c.index.ensures)
