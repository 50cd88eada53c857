use Rattle.std.proofs.Common.{◌≡◌, ◌-◌, ◌≤◌}
use Rattle.cha_moves.specs.Moves.{legal}
use Rattle.cha_moves.specs.Ends.{HasNoMateWithin}
use Rattle.root_workers.specs.Shares.{AllGrowTo}
use Rattle.root_workers.proofs.Going.{CrewCalls}
use Rattle.root_workers.proofs.deepening.deepen.Given as goal

abbrev pub invariant-loop-depth : goal.invariant-loop-depth
invariant-loop-depth g l = record {
  ready : g.C.Facts.ready l.crew;
  count : g.C.Crew.count l.crew ≡ g.C.Crew.count l.fn.crew;
  listed : l.moves.items ≡ legal l.position;
  none : HasNoMateWithin l.position l.winner l.depth;
  least : l.from ≤ l.depth;
  most : l.depth ≤ l.limits.depth;
  calls : CrewCalls g.C.Crew.made_by l.fn.crew l.crew l.position l.winner l.from l.depth (g.C.Crew.count l.fn.crew);
  grown : AllGrowTo l.depth g.C.Crew.made_by l.fn.crew l.crew (g.C.Crew.count l.fn.crew);
}

abbrev pub decreases-loop-depth : goal.decreases-loop-depth
decreases-loop-depth g l = l.limits.depth - l.depth
