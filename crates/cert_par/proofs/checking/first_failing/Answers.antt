-- The runs, one after the other.
use Rattle.std.proofs.Common.{length, ap, subst, arith}
use Rattle.cha_cert.specs.Shared.{expansion}
use Rattle.cha_cert.proofs.Expanded.{length-expansion}
use Rattle.cert_par.specs.Failing.{FirstBefore}
use Rattle.cert_par.proofs.checking.first_failing.Goals as goal

pub loop-from-init : goal.loop-from-init
loop-from-init g c = record {
  size = ap length c.nodes-count.ensures.value;
  inside = omega arith;
  before = λ j d less. absurd (omega (arith, less));
}

pub returns-in-Some : goal.returns-in-Some
returns-in-Some g c = subst (FirstBefore c.args.winner (expansion c.args.cert.now) c.end_of_run-to.result) c.in-Some.is c.in_ok-number.ensures

pub loop-from-preserved : goal.loop-from-preserved
loop-from-preserved g c = record {
  size = c.loop-from.invariant.size;
  inside = c.end_of_run-to.ensures.inside;
  before = subst (FirstBefore c.args.winner (expansion c.args.cert.now) c.end_of_run-to.result) c.in_default.is c.in_ok-number.ensures;
}

pub returns : goal.returns
returns g c = λ j d inside. (
    let size = c.loop-from.invariant.size in
    let all = c.loop-from-test.false in
    let long = length-expansion c.args.cert.now in
    c.loop-from.invariant.before j d (omega (arith, inside, size, all, long)))
