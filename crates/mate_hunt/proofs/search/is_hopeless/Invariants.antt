use Rattle.std.proofs.Common.{◌≡◌}
use Rattle.cha_moves.specs.Moves.{legal}
use Rattle.mate_hunt.proofs.search.is_hopeless.Given as goal

abbrev pub invariant-loop-m : goal.invariant-loop-m
invariant-loop-m l = l.m-items ≡ legal l.position
