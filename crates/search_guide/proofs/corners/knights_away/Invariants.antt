use Rattle.std.proofs.Common.{◌≤◌}
use Rattle.search_guide.proofs.corners.knights_away.Given as goal

abbrev pub invariant-loop-knight : goal.invariant-loop-knight
invariant-loop-knight l = l.away ≤ 62
