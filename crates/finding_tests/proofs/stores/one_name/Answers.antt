use Rattle.std.proofs.Common.{ℕ, List, subst, ◌∙◌}
use Rattle.node_store.specs.NameLists.{list_at, Has}
use Rattle.node_store.proofs.Storing.{nowhere}
use Rattle.finding_tests.proofs.stores.one_name.Goals as goal

pub link-requires-clause-free : goal.link-requires-clause-free
link-requires-clause-free g c = λ b h. nowhere c.slot-name.result b (subst (λ (ls : List (List ℕ)). Has (list_at ls b) c.slot-name.result) (c.slot-name.ensures.lists ∙ c.requires.none) h)

pub link-requires-clause-above : goal.link-requires-clause-above
link-requires-clause-above g c = λ n h. absurd (nowhere n 63 (subst (λ (ls : List (List ℕ)). Has (list_at ls 63) n) (c.slot-name.ensures.lists ∙ c.requires.none) h))
