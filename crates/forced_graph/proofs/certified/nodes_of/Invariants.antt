use Rattle.std.proofs.Common.{◌≡◌, ◌+◌, ◌++◌, length, drop}
use Rattle.node_store.specs.Nodes.{positions}
use Rattle.forced_graph.specs.Regions.{certified}
use Rattle.forced_graph.proofs.certified.nodes_of.Given as goal

abbrev pub invariant-loop-part : goal.invariant-loop-part
invariant-loop-part l = record {
  whole : l.cert ++ certified (drop l.name (positions l.store.nodes)) l.part-iterator.rest.items ≡ certified (positions l.store.nodes) l.fn.parts.items;
  left : l.name + length l.part-iterator.rest.items ≡ length l.store.nodes;
}
