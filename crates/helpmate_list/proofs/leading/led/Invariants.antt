use Rattle.std.proofs.Common.{◌≡◌, ◌∷◌, take}
use Rattle.helpmate_list.proofs.leading.led.Given as goal

abbrev pub invariant-loop-m : goal.invariant-loop-m
invariant-loop-m l = l.line.items ≡ l.fn.first ∷ take l.m-index l.rest
