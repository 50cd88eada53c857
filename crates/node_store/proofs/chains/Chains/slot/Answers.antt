use Rattle.std.proofs.Common.{◌<◌, length, arith}
use Rattle.node_store.proofs.Linking.{lists_slot, chained_slot}
use Rattle.node_store.proofs.chains.Chains.slot.Goals as goal

pub invariant_of-self : goal.invariant_of-self
invariant_of-self c =
    let few : length c.self.inside.links.items < 4294967295 = rw (← c.self.view_is) at c.requires.few in
    let ready = c.self.invariant.1 in
    let room = c.in-Ok.ensures.capacity in
    let longer = c.in-Ok.ensures.len in
    (chained_slot c.self.inside.heads c.self.inside.links.items c.push.new.self.items 0 c.self.invariant.0 c.in-Ok.ensures.items few, omega arith)

pub returns-clause-lists : goal.returns-clause-lists
returns-clause-lists c = rw (← c.self.view_is) (lists_slot c.self.inside.heads c.self.inside.links.items c.push.new.self.items 0 c.self.invariant.0 c.in-Ok.ensures.items)
