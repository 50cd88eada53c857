use Rattle.std.proofs.Common.{◌≡◌, take, Contains}
use Rattle.helpmate_list.specs.declared.parts.RootLines.{RootLines}
use Rattle.helpmate_list.proofs.gather.of_root.Given as goal

abbrev pub invariant-loop-behind : goal.invariant-loop-behind
invariant-loop-behind l = (one : RootLines) → Contains (take l.behind-index l.found) one → one.root_move ≡ l.root_move → ⊥
