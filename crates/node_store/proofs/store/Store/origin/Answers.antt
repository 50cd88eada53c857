use Rattle.std.proofs.Common.{sym}
use Rattle.node_store.proofs.Marking.{node_entry}
use Rattle.node_store.proofs.Keying.{at_entry, origin_entry}
use Rattle.node_store.specs.Places.{node_of}
use Rattle.node_store.proofs.store.Store.origin.Goals as goal

pub returns-clause-comes : goal.returns-clause-comes
returns-clause-comes c = rw (← c.self.view_is) (c.in-Some.field-0-0.now.position, at_entry c.self.inside.nodes.entries c.args.name c.in-Some.field-0-0.now c.in-Some.place.now (sym c.in-Some.ensures.entry), c.self.invariant.0.store.origins c.args.name (node_of (c.in-Some.field-0-0.now, c.in-Some.place.now)) (node_entry c.self.inside.nodes.entries c.args.name c.in-Some.field-0-0.now c.in-Some.place.now (sym c.in-Some.ensures.entry)))

pub returns-clause-value : goal.returns-clause-value
returns-clause-value c = rw (← c.self.view_is) (origin_entry c.self.inside.nodes.entries c.args.name c.in-Some.field-0-0.now c.in-Some.place.now (sym c.in-Some.ensures.entry))
