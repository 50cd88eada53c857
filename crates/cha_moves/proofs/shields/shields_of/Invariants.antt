use Rattle.cha_moves.proofs.Facing.{Faced}
use Rattle.cha_moves.proofs.shields.shields_of.Given as goal

-- what is known of the men that were looked at
abbrev pub invariant-loop-by : goal.invariant-loop-by
invariant-loop-by l = Faced l.position l.by-iterator l.answers l.screens
