use Rattle.std.proofs.Common.{refl, ap, Some, false, ◌∙◌, arith}
use Rattle.node_store.proofs.Adding.{stored_put}
use Rattle.node_store.specs.Graphs.{Graph}
use Rattle.node_store.proofs.store.Store.add_ready.Goals as goal

pub invariant_of-self : goal.invariant_of-self
invariant_of-self g c = (stored_put c.args.self.now.nodes c.args.self.now.waiting c.self.inside.nodes.entries c.self.inside.waiting.lists c.link.new.self.lists c.self.inside.waiting.slots c.link.new.self.slots c.args.bucket c.insert-name.result (record { position = c.args.position.now; origin = Some (record { parent = c.args.parent; by = c.args.by }); leaf = false }) c.known.ensures c.self.invariant.0 (ap (λ (v : Graph). v.nodes) c.self.view_is ∙ c.insert-name.ensures.nodes) refl (ap (λ (v : Graph). v.waiting) c.self.view_is ∙ c.insert-name.ensures.waiting) (c.insert-name.ensures.name) c.link.ensures.lists c.link.ensures.slots, omega (arith, c.self.invariant.1, c.link.ensures.spare))
