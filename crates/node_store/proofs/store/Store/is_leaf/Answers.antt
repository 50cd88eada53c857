use Rattle.std.proofs.Common.{sym}
use Rattle.node_store.proofs.Keying.{leaf_entry}
use Rattle.node_store.proofs.store.Store.is_leaf.Goals as goal

pub returns : goal.returns
returns c = rw (← c.self.view_is) (leaf_entry c.self.inside.nodes.entries c.args.name c.in-Some.field-0-0.now c.in-Some.place.now (sym c.in-Some.ensures.entry))
