use Rattle.std.proofs.Common.{Some, sym, ap, ◌∙◌}
use Rattle.node_store.proofs.Keying.{unfound_new, found_same, at_entry}
use Rattle.node_store.proofs.store.Store.find_spot.Goals as goal

pub returns-in-None-clause-none : goal.returns-in-None-clause-none
returns-in-None-clause-none c = rw (← c.self.view_is) (unfound_new c.self.inside.nodes.entries c.args.wanted.now.position (sym c.in-None.ensures.value))

pub returns-in-Some-clause-found : goal.returns-in-Some-clause-found
returns-in-Some-clause-found c = rw (← c.self.view_is) (at_entry c.self.inside.nodes.entries c.in-Some.at c.in-Some.spot.now c.in-Some.field-0-2.now c.in-Some.ensures.entry ∙ ap Some (found_same c.self.inside.nodes.entries c.args.wanted.now.position c.in-Some.spot.now c.known.ensures c.known-in-Some.ensures (sym c.in-Some.ensures.key)))
