use Rattle.std.proofs.Common.{refl, ap, length, Some, false, List, [], ◌∷◌, ◌++◌, ◌∙◌, arith}
use Rattle.node_store.proofs.Adding.{stored_put}
use Rattle.node_store.specs.Nodes.{Node}
use Rattle.node_store.specs.Graphs.{Graph}
use Rattle.node_store.proofs.store.Store.add.Goals as goal

pub invariant_of-self : goal.invariant_of-self
invariant_of-self c = (stored_put c.args.self.now.nodes c.args.self.now.waiting c.self.inside.nodes.entries c.self.inside.waiting.lists c.put.new.self.lists c.self.inside.waiting.slots c.put.new.self.slots c.args.bucket c.insert-name.result (record { position = c.args.position.now; origin = Some (record { parent = c.args.parent; by = c.args.by }); leaf = false }) c.known.ensures c.self.invariant.0 (ap (λ (v : Graph). v.nodes) c.self.view_is ∙ c.insert-name.ensures.nodes ∙ ap (λ (ns : List Node). ns ++ (record { position = c.args.position.now; origin = Some (record { parent = c.args.parent; by = c.args.by }); leaf = false }) ∷ []) c.in_ok-reserve.ensures.nodes) refl (ap (λ (v : Graph). v.waiting) c.self.view_is ∙ c.insert-name.ensures.waiting ∙ c.in_ok-reserve.ensures.waiting) (c.insert-name.ensures.name ∙ ap length c.in_ok-reserve.ensures.nodes) c.put.ensures.lists c.put.ensures.slots, omega (arith, c.self.invariant.1, c.put.ensures.spare))
