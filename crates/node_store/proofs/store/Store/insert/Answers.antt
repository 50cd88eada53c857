use Rattle.std.proofs.Common.{◌<◌, Some, length, arith}
use Rattle.node_store.proofs.Adding.{entries_push, nodes_push, stored_push, entry_of}
use Rattle.node_store.specs.Places.{nodes_of}
use Rattle.node_store.proofs.store.Store.insert.Goals as goal

pub invariant_of-self : goal.invariant_of-self
invariant_of-self c = let put = c.in-Ok.ensures.entries in let new = rw (← c.self.view_is) at c.requires.new in let reached = rw (← c.self.view_is) at c.requires.reached in let few : length (nodes_of c.self.inside.nodes.entries) < 4294967295 = rw (← c.self.view_is) at c.requires.few in (stored_push c.self.inside.nodes.entries c.insert.new.self.entries c.self.inside.waiting.lists c.slot.new.self.lists c.self.inside.waiting.slots c.slot.new.self.slots c.args.position.now c.args.origin c.args.leaf c.self.invariant.0 (entries_push c.self.inside.nodes c.self.inside.waiting.lists c.self.inside.waiting.slots c.args.position.now (record { origin = Some c.args.origin; leaf = c.args.leaf }) c.insert.new.self.entries c.self.invariant.0 c.known.ensures new (rw c.of.ensures at put)) c.slot.ensures.lists c.slot.ensures.slots new reached c.known.ensures few, omega (arith, c.self.invariant.1, c.slot.ensures.spare, c.in-Ok.ensures.spare))

pub returns-clause-nodes : goal.returns-clause-nodes
returns-clause-nodes c = let put = c.in-Ok.ensures.entries in let new = rw (← c.self.view_is) at c.requires.new in rw (← c.self.view_is) (nodes_push c.self.inside.nodes.entries c.insert.new.self.entries (entry_of c.args.position.now (Some c.args.origin) c.args.leaf) (entries_push c.self.inside.nodes c.self.inside.waiting.lists c.self.inside.waiting.slots c.args.position.now (record { origin = Some c.args.origin; leaf = c.args.leaf }) c.insert.new.self.entries c.self.invariant.0 c.known.ensures new (rw c.of.ensures at put)))
