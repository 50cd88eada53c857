use Rattle.std.proofs.Common.{◌-◌, ◌≤◌}
use Rattle.forced_graph.specs.Regions.{IsBetween, IsTaskOf}
use Rattle.cha_fact.specs.Entries.{MadeSome}
use Rattle.forced_graph.specs.Asking.{HasCalled}
use Rattle.forced_graph.proofs.exploring.explore.Given as goal

abbrev pub invariant-loop-region : goal.invariant-loop-region
invariant-loop-region g l = record {
  ready : g.F.Facts.ready l.facts;
  between : IsBetween l.region;
  task : IsTaskOf l.position l.winner l.region;
  few : l.region.count ≤ l.budget;
  calls : MadeSome g.F.Facts.made l.fn.facts l.facts;
  asked : HasCalled g.F.Facts.made l.fn.facts l.facts l.winner l.region.count;
}

abbrev pub decreases-loop-region : goal.decreases-loop-region
decreases-loop-region g l = l.budget - l.region.count
