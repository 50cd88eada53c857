use Rattle.std.proofs.Common.{set}
use Rattle.node_store.specs.Nodes.{mark}
use Rattle.forced_graph.proofs.Popping.{marked, moved}
use Rattle.forced_graph.proofs.region.Region.mark.Goals as goal

pub returns-clause-between : goal.returns-clause-between
returns-clause-between c =
    let s = c.args.self.now in
    let t = c.mark_leaf.new.self in
    let name = c.args.name in
    moved s.root s.winner s.count (mark s.store.nodes name) t.nodes s.store.waiting t.waiting (set s.parts.items name c.args.part)
    (marked name s.root s.winner s.count s.store.nodes s.store.waiting s.parts.items c.args.part c.requires.popped c.requires.leaf) c.mark_leaf.ensures.nodes c.mark_leaf.ensures.waiting
