use Rattle.std.proofs.Common.{arith}
use Rattle.node_store.proofs.Linking.{lists_new, chained_new}
use Rattle.node_store.proofs.chains.Chains.new.Goals as goal

pub invariant_of-result : goal.invariant_of-result
invariant_of-result c = (chained_new c.new.result.items c.new.ensures.items, omega arith)

pub returns-clause-lists : goal.returns-clause-lists
returns-clause-lists c = lists_new c.new.result.items
