use Rattle.std.proofs.Common.{◌≡◌, ◌≤◌, ◌+◌, length}
use Rattle.cha_fact.specs.Entries.{MadeSome}
use Rattle.cha_decide.specs.Scanning.{IsShownAt}
use Rattle.cha_decide.proofs.scanning.go_back.Given as goal

-- the ply that was reached is dead
abbrev pub invariant-loop-dead : goal.invariant-loop-dead
invariant-loop-dead g l = record {
  ready : g.C.Facts.ready l.crew;
  size : length l.positions ≡ l.last + 1;
  inside : l.dead.ply ≤ l.last;
  shown : IsShownAt l.positions l.dead;
  calls : MadeSome g.C.Facts.made l.fn.crew l.crew;
}

abbrev pub decreases-loop-dead : goal.decreases-loop-dead
decreases-loop-dead g l = l.dead.ply
