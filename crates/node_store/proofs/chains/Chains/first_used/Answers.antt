use Rattle.std.proofs.Common.{arith}
use Rattle.node_store.proofs.Naming.{all_none}
use Rattle.node_store.proofs.chains.Chains.first_used.Goals as goal

pub returns-clause-none : goal.returns-clause-none
returns-clause-none g c = all_none c.args.self.now.lists 64 c.known.ensures.size (λ k within. c.loop-bucket.invariant.before k (omega arith))
