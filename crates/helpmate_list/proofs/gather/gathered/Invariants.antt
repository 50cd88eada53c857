use Rattle.std.proofs.Common.{◌≡◌, ◌-◌, take}
use Rattle.std.specs.List.{flat_map}
use Rattle.cha_moves.proofs.MateLines.{begun}
use Rattle.helpmate_list.proofs.gather.gathered.Given as goal

abbrev pub invariant-loop-root_move : goal.invariant-loop-root_move
invariant-loop-root_move l = l.lines ≡ take 201 (flat_map (begun l.task.position l.task.winner (l.task.plies - 1)) (take l.root_move l.moves))
