use Rattle.cha_moves.proofs.GoingLegally.{Sifted}
use Rattle.cha_moves.proofs.legally.sifted.Given as goal

-- the squares that are left are ways, and the others were asked
abbrev pub invariant-loop-to : goal.invariant-loop-to
invariant-loop-to l = Sifted l.position l.from l.to-iterator l.legal
