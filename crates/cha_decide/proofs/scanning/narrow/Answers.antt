use Rattle.std.proofs.Common.{refl, arith}
use Rattle.std.proofs.lemmas.Option.{slice_get_read}
use Rattle.cha_decide.proofs.Backwards.{made_none, made_both, shown_at, shown_inside, found_scan}
use Rattle.cha_decide.proofs.scanning.narrow.Goals as goal

pub loop-before-init : goal.loop-before-init
loop-before-init g c = record {
  ready = c.requires.ready;
  shown = c.requires.dead;
  inside = shown_inside c.args.positions.now c.args.dead c.requires.dead;
  before = c.requires.before;
  apart = c.requires.apart;
  calls = made_none g.C.Facts.made c.args.crew.now (g.met.C.Facts.none_made c.args.crew.now);
}

pub returns-in_err-certs-clause-calls : goal.returns-in_err-certs-clause-calls
returns-in_err-certs-clause-calls g c = made_both g.C.Facts.made g.met.C.Facts.both_made c.args.crew.now c.loop-before.crew c.look.new.crew c.loop-before.invariant.calls c.look.ensures.calls

pub returns-clause-stays_ready : goal.returns-clause-stays_ready
returns-clause-stays_ready g c = c.loop-before.invariant.ready

pub returns-clause-found : goal.returns-clause-found
returns-clause-found g c =
    found_scan c.args.positions.now c.args.first c.args.limits.now c.loop-before.dead c.loop-before.before c.loop-before.invariant.shown c.loop-before.invariant.before
    (let near = c.loop-before-test.false in omega (arith, near, c.loop-before.invariant.apart))

pub returns-clause-calls : goal.returns-clause-calls
returns-clause-calls g c = c.loop-before.invariant.calls

pub loop-before-preserved-in-Dead : goal.loop-before-preserved-in-Dead
loop-before-preserved-in-Dead g c =
    let some = c.loop-before.invariant.inside in
    let few = c.halfway-ply.ensures.sooner in
    record {
      ready = c.look.ensures.stays_ready;
      shown =
          shown_at c.args.positions.now c.args.first c.args.limits.now c.halfway-ply.result c.index-positions-ply.result c.in-Dead.certs (omega (arith, some, few))
          (slice_get_read c.args.positions.now _ c.halfway-ply.result c.index-positions-ply.result refl (omega (arith, some, few)) c.index-positions-ply.is) (rw c.in-Dead.is at c.in_ok-certs.ensures.found);
      inside = omega (arith, some, few);
      before = c.loop-before.invariant.before;
      apart = c.halfway-ply.ensures.later;
      calls = made_both g.C.Facts.made g.met.C.Facts.both_made c.args.crew.now c.loop-before.crew c.look.new.crew c.loop-before.invariant.calls c.look.ensures.calls;
    }

pub loop-before-preserved : goal.loop-before-preserved
loop-before-preserved g c =
    let some = c.loop-before.invariant.inside in
    let few = c.halfway-ply.ensures.sooner in
    record {
      ready = c.look.ensures.stays_ready;
      shown = c.loop-before.invariant.shown;
      inside = some;
      before =
          (c.index-positions-ply.result, slice_get_read c.args.positions.now _ c.halfway-ply.result c.index-positions-ply.result refl (omega (arith, some, few)) c.index-positions-ply.is, rw c.in-Open.is at c.in_ok-certs.ensures.found);
      apart = few;
      calls = made_both g.C.Facts.made g.met.C.Facts.both_made c.args.crew.now c.loop-before.crew c.look.new.crew c.loop-before.invariant.calls c.look.ensures.calls;
    }
