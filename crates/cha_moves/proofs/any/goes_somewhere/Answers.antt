use Rattle.std.proofs.Common.{◌<◌, sym, ap, ◌∙◌, arith}
use Rattle.cha_board.specs.SquareSets.{has_square}
use Rattle.cha_board.proofs.SetLaws.{has-set_of}
use Rattle.cha_moves.specs.Ways.{is_way}
use Rattle.cha_moves.proofs.Facing.{first_in}
use Rattle.cha_moves.proofs.SomeFrom.{some_going, fewer_ways}
use Rattle.cha_moves.proofs.any.goes_somewhere.Goals as goal

pub loop-to-init : goal.loop-to-init
loop-to-init c t small here =
    sym (has-set_of (is_way c.args.position.now c.args.from) t small) ∙ ap (λ x. has_square x t) (sym (c.into_iter-to-iterator.ensures.into_iter_gives ∙ c.ways_of-to-items.ensures)) ∙ here

pub goes_well-requires-clause-way : goal.goes_well-requires-clause-way
goes_well-requires-clause-way c =
    let to : c.in-Some-to.to < 64 = omega arith in
    let next = c.in-Some-to.ensures.steps.0 in
    c.loop-to.invariant c.in-Some-to.to to (first_in c.loop-to.to-iterator c.in-Some-to.to _ next)

pub loop-to-preserved : goal.loop-to-preserved
loop-to-preserved c = fewer_ways c.args.position.now c.args.from c.in-Some-to.to c.loop-to.to-iterator c.next.new.self c.in-Some-to.ensures.steps.1 c.loop-to.invariant

pub returns-then-goes_well : goal.returns-then-goes_well
returns-then-goes_well c =
    let to : c.in-Some-to.to < 64 = omega arith in
    let from : c.args.from < 64 = omega arith in
    some_going c.args.position.now c.args.from c.in-Some-to.to from to (sym c.goes_well.ensures ∙ c.if-goes_well.true)
