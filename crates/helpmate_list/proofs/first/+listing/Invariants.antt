use Rattle.std.proofs.Common.{◌≡◌, ◌+◌, ◌-◌, ◌*◌, take}
use Rattle.std.specs.List.{flat_map}
use Rattle.cha_moves.specs.Moves.{legal}
use Rattle.cha_moves.proofs.MateLines.{begun}
use Rattle.helpmate_list.proofs.first.+listing.Given as goal

abbrev pub decreases-first_lines : goal.decreases-first_lines
decreases-first_lines g l = 2 * l.plies + 1

abbrev pub decreases-expand : goal.decreases-expand
decreases-expand g l = 2 * l.plies

abbrev pub invariant-expand-loop-m : goal.invariant-expand-loop-m
invariant-expand-loop-m g l = record {
  ready : g.F.Facts.ready l.facts;
  listed : l.m-items ≡ legal l.position;
  lines : l.lines ≡ take l.most (flat_map (begun l.position l.winner (l.plies - 1)) (take l.m-index l.m-items));
}
