use Rattle.std.proofs.Common.{◌+◌, ℕ, ap, ◌∙◌, arith}
use Rattle.node_store.proofs.Adding.{stored_new}
use Rattle.node_store.proofs.store.Store.new.Goals as goal

pub invariant_of-result : goal.invariant_of-result
invariant_of-result c = let entries = c.in_ok-insert.ensures.entries in let empty = c.new-nodes.ensures.empty in (stored_new c.insert.new.self.entries c.slot-name.new.self.lists c.put.new.self.lists c.slot-name.result c.put.new.self.slots c.args.root.now (rw (c.new-nodes.ensures.empty, c.of.ensures) at entries) (c.slot-name.ensures.lists ∙ c.in_ok-reserve.ensures.lists ∙ c.new-waiting.ensures.lists) (c.slot-name.ensures.name ∙ c.in_ok-reserve.ensures.slots ∙ c.new-waiting.ensures.slots) c.put.ensures.lists (c.put.ensures.slots ∙ c.slot-name.ensures.slots ∙ ap (λ (n : ℕ). n + 1) (c.in_ok-reserve.ensures.slots ∙ c.new-waiting.ensures.slots)) c.known.ensures, omega (arith, c.new-waiting.ensures.spare, c.in_ok-reserve.ensures.spare, c.slot-name.ensures.spare, c.put.ensures.spare))
