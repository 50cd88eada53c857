use Rattle.std.proofs.Common.{◌≡◌, ◌+◌, ◌-◌, ◌*◌, ◌<◌, take}
use Rattle.cha_moves.specs.Moves.{legal}
use Rattle.helpmate.proofs.Counting.{HasLinesFrom}
use Rattle.helpmate.proofs.Trying.{HaveNoMate, Tried}
use Rattle.helpmate.proofs.search.+searching.Given as goal

abbrev pub decreases-search : goal.decreases-search
decreases-search g l = 3 * l.depth + 2

abbrev pub decreases-search_deep : goal.decreases-search_deep
decreases-search_deep g l = 3 * l.depth + 1

abbrev pub decreases-expand : goal.decreases-expand
decreases-expand g l = 3 * l.depth

abbrev pub invariant-expand-loop-m : goal.invariant-expand-loop-m
invariant-expand-loop-m g l = record {
  ready : g.F.Facts.ready l.facts;
  listed : l.m-items ≡ legal l.position;
  fewer : l.left < l.fn.left;
  lines : HasLinesFrom l.position (l.depth - 1) (take l.m-index l.m-items) (l.fn.left - 1 - l.left);
  none : HaveNoMate l.position l.winner (l.depth - 1) (take l.m-index l.m-items);
  tried : Tried g.F.Facts.made l.fn.facts l.facts l.position l.winner (l.depth - 1) (take l.m-index l.m-items) (l.fn.left - 1 - l.left);
}
