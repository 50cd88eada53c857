use Rattle.std.proofs.Common.{refl, sym, ap, ◌∙◌}
use Rattle.cha_board.specs.Men.{same_color}
use Rattle.cha_board.proofs.Identity.{same_color_equal}
use Rattle.cha_moves.proofs.MateMoves.{not_to_move, leaves_own, left_without, none_left}
use Rattle.cha_moves.proofs.mating.mating_move.Goals as goal

pub returns-then-not-is-clause-none : goal.returns-then-not-is-clause-none
returns-then-not-is-clause-none c =
    not_to_move c.args.position.now c.args.winner (ap (λ side. same_color side c.args.winner) (sym c.side.ensures) ∙ sym c.is.ensures ∙ c.if-not-is.true)

pub loop-from-init : goal.loop-from-init
loop-from-init c m mates =
    let q = c.args.position.now in
    let side = same_color_equal q.side c.args.winner (ap (λ side. same_color side c.args.winner) (sym c.side.ensures) ∙ sym c.is.ensures ∙ c.if-not-is.false) in
    leaves_own q c.args.winner c.into_iter-from-iterator.result side ((c.into_iter-from-iterator.ensures.into_iter_gives ∙ c.of_side-from-items.ensures) ∙ rw c.placement.ensures.value refl) m mates.0

pub loop-from-preserved : goal.loop-from-preserved
loop-from-preserved c m mates =
    let from = c.in-Some.from in
    let next = c.in-Some.ensures.steps.0 in
    left_without c.loop-from.from-iterator c.next.new.self from m.from next (λ same. c.in_default.ensures.none m mates (sym same)) (c.loop-from.invariant m mates)

pub returns-clause-none : goal.returns-clause-none
returns-clause-none c m mates = none_left c.loop-from.from-iterator m.from c.in-None.ensures.steps.0 (c.loop-from.invariant m mates)
