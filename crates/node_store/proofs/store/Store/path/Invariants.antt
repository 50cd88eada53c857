use Rattle.std.proofs.Common.{◌<◌, length, reverse}
use Rattle.node_store.specs.Nodes.{IsPath}
use Rattle.node_store.proofs.store.Store.path.Given as goal

abbrev pub invariant-loop-origin : goal.invariant-loop-origin
invariant-loop-origin l = record { within : l.at < length l.self.nodes; path : IsPath l.self.nodes l.at (reverse l.back.items) l.name }

abbrev pub decreases-loop-origin : goal.decreases-loop-origin
decreases-loop-origin l = l.at
