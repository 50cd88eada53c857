use Rattle.std.proofs.Common.{◌<◌, ◌-◌, length}
use Rattle.cha_fact.specs.Entries.{MadeSome}
use Rattle.cha_decide.specs.Scanning.{IsShownAt, IsOpenAt}
use Rattle.cha_decide.proofs.scanning.narrow.Given as goal

-- a dead ply behind an open one
abbrev pub invariant-loop-before : goal.invariant-loop-before
invariant-loop-before g l = record {
  ready : g.C.Facts.ready l.crew;
  shown : IsShownAt l.positions l.dead;
  inside : l.dead.ply < length l.positions;
  before : IsOpenAt l.positions l.first l.limits l.before;
  apart : l.before.ply < l.dead.ply;
  calls : MadeSome g.C.Facts.made l.fn.crew l.crew;
}

abbrev pub decreases-loop-before : goal.decreases-loop-before
decreases-loop-before g l = l.dead.ply - l.before.ply
