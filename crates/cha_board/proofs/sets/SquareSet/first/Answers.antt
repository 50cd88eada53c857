use Rattle.std.proofs.Common.{sym, ap, Some, ◌∙◌, arith}
use Rattle.cha_board.proofs.Firsts.{first_none, first_some}
use Rattle.cha_board.proofs.sets.SquareSet.first.Goals as goal

pub returns-then-self-eq0 : goal.returns-then-self-eq0
returns-then-self-eq0 c = rw (← c.self.view_is) (sym (first_none c.self.inside.bits c.if-self-eq0.true))

pub returns-else-self-eq0 : goal.returns-else-self-eq0
returns-else-self-eq0 c =
    rw (← c.self.view_is) (ap (λ s. Some s) c.at.ensures ∙ sym (first_some c.self.inside.bits (omega (arith, c.if-self-eq0.false)) c.self.invariant))
