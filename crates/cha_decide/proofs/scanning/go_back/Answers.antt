use Rattle.std.proofs.Common.{rules, refl, arith}
use Rattle.cha_decide.proofs.Backwards.{made_none, made_both, shown_at}
use Rattle.std.proofs.lemmas.Option.{slice_get_read}
use Rattle.cha_decide.proofs.scanning.go_back.Goals as goal

pub loop-dead-init : goal.loop-dead-init
loop-dead-init g c = record {
  ready = c.requires.ready;
  size = omega (arith, c.requires.some);
  inside = omega arith;
  shown = record { earlier = omega (arith, c.requires.some); printable = tt };
  calls = made_none g.C.Facts.made c.args.crew.now (g.met.C.Facts.none_made c.args.crew.now);
}

pub loop-dead-preserved : goal.loop-dead-preserved
loop-dead-preserved g c = record {
  ready = c.look.ensures.stays_ready;
  size = c.loop-dead.invariant.size;
  inside = omega (arith, c.sooner_than-ply.ensures, c.loop-dead.invariant.inside);
  shown =
      shown_at c.args.positions.now c.args.first c.args.limits.now c.sooner_than-ply.result c.index-positions-ply.result c.in-Dead.certs (omega (arith, c.sooner_than-ply.ensures, c.loop-dead.invariant.inside, c.loop-dead.invariant.size))
      (slice_get_read c.args.positions.now _ c.sooner_than-ply.result c.index-positions-ply.result refl (omega (arith, c.sooner_than-ply.ensures, c.loop-dead.invariant.inside, c.loop-dead.invariant.size)) c.index-positions-ply.is)
      (rw c.in-Dead.is at c.in_ok-certs.ensures.found);
  calls = made_both g.C.Facts.made g.met.C.Facts.both_made c.args.crew.now c.loop-dead.crew c.look.new.crew c.loop-dead.invariant.calls c.look.ensures.calls;
}

pub returns-in-Open-clause-reached : goal.returns-in-Open-clause-reached
returns-in-Open-clause-reached g c = record { dead = c.loop-dead.invariant.shown; before = (c.sooner_than-ply.ensures, (c.index-positions-ply.result, slice_get_read c.args.positions.now _ c.sooner_than-ply.result c.index-positions-ply.result refl (omega (arith, c.sooner_than-ply.ensures, c.loop-dead.invariant.inside, c.loop-dead.invariant.size)) c.index-positions-ply.is, rw c.in-Open.is at c.in_ok-certs.ensures.found)) }

pub returns-in-Open-clause-calls : goal.returns-in-Open-clause-calls
returns-in-Open-clause-calls g c = made_both g.C.Facts.made g.met.C.Facts.both_made c.args.crew.now c.loop-dead.crew c.look.new.crew c.loop-dead.invariant.calls c.look.ensures.calls

pub returns-in_err-certs-clause-calls : goal.returns-in_err-certs-clause-calls
returns-in_err-certs-clause-calls g c = made_both g.C.Facts.made g.met.C.Facts.both_made c.args.crew.now c.loop-dead.crew c.look.new.crew c.loop-dead.invariant.calls c.look.ensures.calls

pub returns-clause-stays_ready : goal.returns-clause-stays_ready
returns-clause-stays_ready g c = c.loop-dead.invariant.ready

pub returns-clause-reached : goal.returns-clause-reached
returns-clause-reached g c = record { dead = c.loop-dead.invariant.shown; before = (let none = c.loop-dead-test.false in search rules) }

pub returns-clause-calls : goal.returns-clause-calls
returns-clause-calls g c = c.loop-dead.invariant.calls
