use Rattle.std.proofs.Common.{◌≤◌}
use Rattle.search_guide.proofs.balance.least_blocker.Given as goal

abbrev pub invariant-loop-pawn : goal.invariant-loop-pawn
invariant-loop-pawn l = l.least ≤ 24
