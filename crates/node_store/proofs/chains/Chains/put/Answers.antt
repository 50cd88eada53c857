use Rattle.std.proofs.Common.{◌<◌, length, arith}
use Rattle.node_store.proofs.Linking.{room, lists_put, chained_put}
use Rattle.node_store.proofs.chains.Chains.put.Goals as goal

pub overflow_add-self : goal.overflow_add-self
overflow_add-self c = let slot : c.args.name < length c.self.inside.links.items = rw (← c.self.view_is) at c.requires.slot in let free = rw (← c.self.view_is) at c.requires.free in let above = rw (← c.self.view_is) at c.requires.above in omega (arith, room c.self.inside.heads c.self.inside.links.items c.args.bucket c.self.invariant.0 c.args.name above, c.self.invariant.0.few)

pub invariant_of-self : goal.invariant_of-self
invariant_of-self c = let slot : c.args.name < length c.self.inside.links.items = rw (← c.self.view_is) at c.requires.slot in let free = rw (← c.self.view_is) at c.requires.free in let above = rw (← c.self.view_is) at c.requires.above in (chained_put c.self.inside.heads c.self.inside.links.items c.args.bucket c.self.invariant.0 c.args.name c.requires.bucket slot free above, c.self.invariant.1)

pub returns-clause-lists : goal.returns-clause-lists
returns-clause-lists c = let slot : c.args.name < length c.self.inside.links.items = rw (← c.self.view_is) at c.requires.slot in let free = rw (← c.self.view_is) at c.requires.free in let above = rw (← c.self.view_is) at c.requires.above in rw (← c.self.view_is) (lists_put c.self.inside.heads c.self.inside.links.items c.args.bucket c.self.invariant.0 c.args.name c.requires.bucket slot free)
