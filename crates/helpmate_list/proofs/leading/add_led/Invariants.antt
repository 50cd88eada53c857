use Rattle.std.proofs.Common.{◌≡◌, ◌∷◌, ◌++◌, map, take}
use Rattle.helpmate_list.proofs.leading.add_led.Given as goal

abbrev pub invariant-loop-line : goal.invariant-loop-line
invariant-loop-line l = l.lines ≡ take l.most (l.fn.lines ++ map (λ line. l.first ∷ line) (take l.line-index l.rest))
