use Rattle.std.proofs.Common.{◌≡◌, ◌<◌, ◌+◌, ℕ, []}
use Rattle.node_store.specs.NameLists.{list_at}
use Rattle.node_store.proofs.chains.Chains.first_used.Given as goal

abbrev pub invariant-loop-bucket : goal.invariant-loop-bucket
invariant-loop-bucket g l = record { before : (k : ℕ) → k < l.bucket → list_at l.self.lists k ≡ []; cost : l.steps ≡ l.fn.steps + l.bucket }
