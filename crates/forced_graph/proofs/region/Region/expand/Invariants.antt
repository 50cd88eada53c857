use Rattle.std.proofs.Common.{◌≡◌, take}
use Rattle.cha_moves.specs.Moves.{legal}
use Rattle.node_store.specs.Nodes.{IsAt}
use Rattle.forced_graph.specs.Regions.{IsExpanding, IsSameTask}
use Rattle.forced_graph.proofs.region.Region.expand.Given as goal

abbrev pub invariant-loop-by : goal.invariant-loop-by
invariant-loop-by l = record {
  expanding : IsExpanding l.name (take l.by-index l.by-items) l.self;
  listed : l.by-items ≡ legal l.here;
  at : IsAt l.self.store.nodes l.name l.here;
  same : IsSameTask l.fn.self l.self;
}
