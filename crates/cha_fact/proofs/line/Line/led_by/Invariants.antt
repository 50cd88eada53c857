use Rattle.std.proofs.Common.{◌≡◌, ◌∷◌, take}
use Rattle.cha_fact.proofs.line.Line.led_by.Given as goal

abbrev pub invariant-loop-m : goal.invariant-loop-m
invariant-loop-m l = l.moves.items ≡ l.fn.first ∷ take l.m-index l.m-items
