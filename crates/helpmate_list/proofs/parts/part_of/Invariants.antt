use Rattle.helpmate_list.proofs.Dealing.{IsPartBelow}
use Rattle.helpmate_list.proofs.parts.part_of.Given as goal

abbrev pub invariant-loop-root_move : goal.invariant-loop-root_move
invariant-loop-root_move l = IsPartBelow l.task l.moves l.number l.count l.root_move l.found.items
