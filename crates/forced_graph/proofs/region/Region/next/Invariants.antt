use Rattle.forced_graph.specs.Regions.{IsBetween, IsSameTask}
use Rattle.forced_graph.specs.HowManyWait.{how_many}
use Rattle.forced_graph.proofs.region.Region.next.Given as goal

abbrev pub invariant-loop-name : goal.invariant-loop-name
invariant-loop-name l = record {
  between : IsBetween l.self;
  same : IsSameTask l.fn.self l.self;
}

abbrev pub decreases-loop-name : goal.decreases-loop-name
decreases-loop-name l = how_many l.self.store.waiting
