use Rattle.node_store.proofs.Marking.{stored_mark, marked_entries}
use Rattle.node_store.proofs.store.Store.mark_leaf.Goals as goal

pub invariant_of-self : goal.invariant_of-self
invariant_of-self c = let free = rw (← c.self.view_is) at c.requires.free in (stored_mark c.self.inside.nodes.entries c.self.inside.waiting.lists c.self.inside.waiting.slots c.args.name c.in-Some.place.now c.self.invariant.0 c.in-Some.ensures.value free, c.self.invariant.1)

pub returns-clause-nodes : goal.returns-clause-nodes
returns-clause-nodes c = rw (← c.self.view_is) (marked_entries c.self.inside.nodes.entries c.args.name c.in-Some.place.now c.in-Some.ensures.value)
