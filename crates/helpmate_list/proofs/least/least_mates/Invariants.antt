use Rattle.std.proofs.Common.{◌≡◌, ◌+◌, ◌-◌}
use Rattle.helpmate_list.specs.Shortest.{HasNoMateBelow, shortest, shortest_from}
use Rattle.helpmate_list.proofs.ToMove.{mover_after}
use Rattle.helpmate_list.proofs.least.least_mates.Given as goal

abbrev pub invariant-loop-plies : goal.invariant-loop-plies
invariant-loop-plies g l = record {
  none : HasNoMateBelow l.position l.winner l.plies;
  longer : shortest l.position l.winner l.depth ≡ shortest_from (l.depth + 1 - l.plies) l.plies l.position l.winner;
  mover : l.mover ≡ mover_after l.position.side l.plies;
}

abbrev pub decreases-loop-plies : goal.decreases-loop-plies
decreases-loop-plies g l = l.depth + 1 - l.plies
