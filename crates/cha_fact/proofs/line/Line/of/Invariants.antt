use Rattle.std.proofs.Common.{◌≡◌, take}
use Rattle.cha_fact.proofs.line.Line.of.Given as goal

abbrev pub invariant-loop-m : goal.invariant-loop-m
invariant-loop-m l = l.kept.items ≡ take l.m-index l.moves
