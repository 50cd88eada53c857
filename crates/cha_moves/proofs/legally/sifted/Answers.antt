use Rattle.std.proofs.Common.{◌<◌, arith}
use Rattle.cha_moves.proofs.Facing.{first_in}
use Rattle.cha_moves.proofs.GoingLegally.{unsifted, sifted_one, all_sifted}
use Rattle.cha_moves.proofs.legally.sifted.Goals as goal

pub loop-to-init : goal.loop-to-init
loop-to-init c = rw c.into_iter-to-iterator.ensures.into_iter_gives (unsifted c.args.position.now c.args.from c.args.ways c.requires.ways)

pub goes_well-requires-clause-way : goal.goes_well-requires-clause-way
goes_well-requires-clause-way c =
    let to : c.in-Some.to < 64 = omega arith in
    let next = c.in-Some.ensures.steps.0 in
    c.loop-to.invariant.ways c.in-Some.to to (first_in c.loop-to.to-iterator c.in-Some.to _ next)

pub loop-to-preserved : goal.loop-to-preserved
loop-to-preserved c =
    let to : c.in-Some.to < 64 = omega arith in
    rw (c.in-Some.ensures.steps.1, c.placed-legal.ensures) (sifted_one c.args.position.now c.args.from c.in-Some.to c.loop-to.to-iterator c.loop-to.legal c.goes_well.result to c.goes_well.ensures c.loop-to.invariant)

pub returns : goal.returns
returns c = all_sifted c.args.position.now c.args.from c.loop-to.to-iterator c.loop-to.legal c.loop-to.invariant c.in-None.ensures.steps.0
