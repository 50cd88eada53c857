use Rattle.helpmate_list.proofs.Dealing.{ArePartsBelow}
use Rattle.helpmate_list.proofs.spread.OneByOneSpread.parts.Given as goal

abbrev pub invariant-loop-number : goal.invariant-loop-number
invariant-loop-number l = ArePartsBelow l.task l.moves l.count l.number l.parts.items
