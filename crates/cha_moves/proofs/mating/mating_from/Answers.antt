use Rattle.std.proofs.Common.{sym}
use Rattle.cha_moves.proofs.MateMoves.{left_without, none_left}
use Rattle.cha_moves.proofs.mating.mating_from.Goals as goal

pub loop-to-preserved : goal.loop-to-preserved
loop-to-preserved c m mates from =
    let to = c.in-Some.to in
    let next = c.in-Some.ensures.steps.0 in
    left_without c.loop-to.to-iterator c.next.new.self to m.to next (λ same. c.in_default.ensures.none m mates from (sym same)) (c.loop-to.invariant m mates from)

pub returns-clause-none : goal.returns-clause-none
returns-clause-none c m mates from = none_left c.loop-to.to-iterator m.to c.in-None.ensures.steps.0 (c.loop-to.invariant m mates from)
