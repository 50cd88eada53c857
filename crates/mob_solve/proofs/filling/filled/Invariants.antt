use Rattle.std.proofs.Common.{◌-◌}
use Rattle.mob_solve.specs.Reaching.{size_of}
use Rattle.mob_solve.proofs.Fills.{Fills}
use Rattle.mob_solve.proofs.filling.filled.Given as goal

abbrev pub invariant-loop-side : goal.invariant-loop-side
invariant-loop-side l = Fills l.ground l.side l.kind l.fn.from l.squares

abbrev pub decreases-loop-side : goal.decreases-loop-side
decreases-loop-side l = 64 - size_of l.squares
