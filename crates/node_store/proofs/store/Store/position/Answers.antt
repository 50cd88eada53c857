use Rattle.std.proofs.Common.{Some, sym, ap, ◌∙◌}
use Rattle.node_store.proofs.Keying.{at_entry}
use Rattle.node_store.proofs.store.Store.position.Goals as goal

pub returns : goal.returns
returns c = rw (← c.self.view_is) (at_entry c.self.inside.nodes.entries c.args.name c.in-Some.spot.now c.in-Some.field-0-1.now (sym c.in-Some.ensures.entry) ∙ ap Some (sym c.position.ensures))
