use Rattle.std.proofs.Common.{◌≤◌}
use Rattle.search_guide.proofs.corners.least_of_corners.Given as goal

abbrev pub invariant-loop-corner : goal.invariant-loop-corner
invariant-loop-corner l = l.least ≤ 62
