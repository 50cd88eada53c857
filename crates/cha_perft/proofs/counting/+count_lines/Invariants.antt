use Rattle.std.proofs.Common.{◌≡◌, ◌-◌, take}
use Rattle.cha_moves.specs.Moves.{legal}
use Rattle.cha_perft.specs.Counts.{lines_with}
use Rattle.cha_perft.proofs.counting.+count_lines.Given as goal

abbrev pub decreases-count_lines : goal.decreases-count_lines
decreases-count_lines l = l.depth

abbrev pub invariant-loop-m : goal.invariant-loop-m
invariant-loop-m l = record {
  listed : l.m-items ≡ legal l.position;
  so_far : l.total ≡ lines_with (l.depth - 1) l.position (take l.m-index l.m-items);
}
