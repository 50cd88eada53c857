use Rattle.std.proofs.Common.{◌≡◌, ◌++◌, None, replicate}
use Rattle.cha_fen.proofs.placement.add_empty.Given as goal

-- so many were added
abbrev pub invariant-loop-added : goal.invariant-loop-added
invariant-loop-added l = l.men.items ≡ l.initial.men.items ++ replicate l._added None
