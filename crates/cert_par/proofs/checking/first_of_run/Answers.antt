-- The first node of a run that fails, as each was found.
use Rattle.std.proofs.Common.{◌-◌, arith}
use Rattle.cha_cert.specs.Shared.{expansion}
use Rattle.cha_cert.proofs.Expanded.{length-expansion}
use Rattle.cert_par.proofs.Together.{found_long, more_hold, one_found}
use Rattle.cert_par.proofs.checking.first_of_run.Goals as goal

pub loop-number-init : goal.loop-number-init
loop-number-init c = λ j d less. c.requires.before j d (omega (arith, less))

pub overflow_add-result : goal.overflow_add-result
overflow_add-result c =
    let long = found_long c.args.winner (expansion c.args.cert.now) c.args.from (c.args.to - c.args.from) c.args.found.now c.requires.found in
    let some = c.requires.some in
    let most = c.requires.inside in
    let few = c.requires.few in
    let inside = c.loop-number-test.true in
    omega (arith, long, some, most, few, inside)

pub overflow_cast-result : goal.overflow_cast-result
overflow_cast-result c =
    let long = found_long c.args.winner (expansion c.args.cert.now) c.args.from (c.args.to - c.args.from) c.args.found.now c.requires.found in
    let some = c.requires.some in
    let most = c.requires.inside in
    let few = c.requires.few in
    let inside = c.loop-number-test.true in
    omega (arith, long, some, most, few, inside)

pub returns-then-fails : goal.returns-then-fails
returns-then-fails c =
    let n = c.args.to - c.args.from in
    let nodes = expansion c.args.cert.now in
    let long = found_long c.args.winner nodes c.args.from n c.args.found.now c.requires.found in
    let some = c.requires.some in
    let most = c.requires.inside in
    let inside = c.loop-number-test.true in
    one_found c.args.winner nodes c.args.from n c.args.found.now c.requires.found c.loop-number.number _ c.in-Ok.fails (omega (arith, long, inside)) (omega (arith, long, some, most, inside, length-expansion c.args.cert.now)) c.in-Ok.is c.if-fails.true c.loop-number.invariant

pub loop-number-preserved : goal.loop-number-preserved
loop-number-preserved c =
    let n = c.args.to - c.args.from in
    let nodes = expansion c.args.cert.now in
    let long = found_long c.args.winner nodes c.args.from n c.args.found.now c.requires.found in
    let inside = c.loop-number-test.true in
    more_hold c.args.winner nodes c.args.from n c.args.found.now c.requires.found c.loop-number.number _ c.in-Ok.fails (omega (arith, long, inside)) c.in-Ok.is c.if-fails.false c.loop-number.invariant

pub returns : goal.returns
returns c = λ j d less.
    let long = found_long c.args.winner (expansion c.args.cert.now) c.args.from (c.args.to - c.args.from) c.args.found.now c.requires.found in
    let some = c.requires.some in
    let all = c.loop-number-test.false in
    c.loop-number.invariant j d (omega (arith, less, long, some, all))
