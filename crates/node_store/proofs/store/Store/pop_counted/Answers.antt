use Rattle.std.proofs.Common.{arith, refl, sym, subst, ◌∙◌}
use Rattle.node_store.proofs.Storing.{store_take, first_used_is, none_used, front_inner, front_within, front_waited, front_cost, front_is}
use Rattle.node_store.specs.NameLists.{list_at}
use Rattle.node_store.specs.Places.{nodes_of}
use Rattle.node_store.specs.Graphs.{IsStore}
use Rattle.node_store.proofs.store.Store.pop_counted.Goals as goal

pub invariant_of-self : goal.invariant_of-self
invariant_of-self g c = (record { store = subst (IsStore (nodes_of c.self.inside.nodes.entries)) (sym c.unlink.ensures.lists) (store_take (nodes_of c.self.inside.nodes.entries) c.self.inside.waiting.lists c.self.invariant.0.store c.in-Some.bucket); slots = c.unlink.ensures.slots ∙ c.self.invariant.0.slots }, omega (arith, c.self.invariant.1, c.unlink.ensures.spare))

pub returns-in-None-clause-name : goal.returns-in-None-clause-name
returns-in-None-clause-name g c = rw (← c.self.view_is) (none_used c.self.inside.waiting.lists c.in-None.ensures.none).0

pub returns-in-None-clause-waiting : goal.returns-in-None-clause-waiting
returns-in-None-clause-waiting g c = rw (← c.self.view_is) (none_used c.self.inside.waiting.lists c.in-None.ensures.none).1

pub returns-in-Some-clause-name : goal.returns-in-Some-clause-name
returns-in-Some-clause-name g c = rw (← c.self.view_is) (c.unlink.ensures.name ∙ (first_used_is c.self.inside.waiting.lists c.in-Some.bucket c.in-Some.ensures.before c.in-Some.ensures.found.1).0)

pub returns-in-Some-clause-waiting : goal.returns-in-Some-clause-waiting
returns-in-Some-clause-waiting g c = rw (← c.self.view_is) (c.unlink.ensures.lists ∙ (first_used_is c.self.inside.waiting.lists c.in-Some.bucket c.in-Some.ensures.before c.in-Some.ensures.found.1).1)

pub returns-in-Some-clause-within : goal.returns-in-Some-clause-within
returns-in-Some-clause-within g c = rw (c.unlink.ensures.name) (front_within (nodes_of c.self.inside.nodes.entries) c.self.inside.waiting.lists c.self.invariant.0.store c.in-Some.bucket (list_at c.self.inside.waiting.lists c.in-Some.bucket) refl)

pub returns-in-Some-clause-inner : goal.returns-in-Some-clause-inner
returns-in-Some-clause-inner g c = rw (c.unlink.ensures.name) (front_inner (nodes_of c.self.inside.nodes.entries) c.self.inside.waiting.lists c.self.invariant.0.store c.in-Some.bucket (list_at c.self.inside.waiting.lists c.in-Some.bucket) refl)

pub returns-in-Some-clause-waited : goal.returns-in-Some-clause-waited
returns-in-Some-clause-waited g c = rw (c.unlink.ensures.name, c.unlink.ensures.lists) (front_waited (nodes_of c.self.inside.nodes.entries) c.self.inside.waiting.lists c.self.invariant.0.store c.in-Some.bucket (list_at c.self.inside.waiting.lists c.in-Some.bucket) c.in-Some.ensures.found.0 refl)

pub returns-in-Some-clause-cost : goal.returns-in-Some-clause-cost
returns-in-Some-clause-cost g c = rw (c.unlink.ensures.name, ← c.self.view_is) (front_cost (nodes_of c.self.inside.nodes.entries) c.self.inside.waiting.lists c.self.invariant.0.store c.in-Some.bucket c.args.steps.now c.unlink.new.steps (omega (arith, c.in-Some.ensures.cost, c.unlink.ensures.cost)) (list_at c.self.inside.waiting.lists c.in-Some.bucket) refl)

pub returns-in-Some-clause-whole_cost : goal.returns-in-Some-clause-whole_cost
returns-in-Some-clause-whole_cost g c = rw (c.unlink.ensures.name) (front_is (list_at c.self.inside.waiting.lists c.in-Some.bucket) _ c.in-Some.ensures.found.1)
