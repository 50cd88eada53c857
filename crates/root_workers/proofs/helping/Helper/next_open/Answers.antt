use Rattle.std.proofs.Common.{subst, sym, arith}
use Rattle.root_workers.specs.Helps.{MakesCalls}
use Rattle.root_workers.proofs.Calling.{made_none, made_more}
use Rattle.root_workers.proofs.helping.Helper.next_open.Goals as goal
use Rattle.root_workers.proofs.helping.Helper.next_open.Goals.{then-is_some+then-not-is_known+else-before-self, then-is_some+else-not-is_known, else-is_some+else-is_open}

pub loop-index-init : goal.loop-index-init
loop-index-init g c = record {
  ready = c.requires.ready;
  calls = made_none g.F.Facts.made c.args.facts.now (g.met.F.Facts.none_made c.args.facts.now);
  few = omega arith;
}

pub returns-then-before-self-clause-calls : goal.returns-then-before-self-clause-calls
returns-then-before-self-clause-calls g c = made_more g.F.Facts.made g.met.F.Facts.both_made c.args.facts.now c.loop-index.facts c.is_known.new.facts c.loop-index.invariant.calls c.is_known.ensures.calls

pub loop-index-preserved : goal.loop-index-preserved
loop-index-preserved g c =
    let before = c.loop-index.invariant in
    elim c.if-is_some.branch [
      | then-is_some+then-not-is_known+else-before-self w ↦ record {
        ready = subst g.F.Facts.ready (sym w.facts-is) w.is_known.ensures.stays_ready;
        calls = subst (MakesCalls g.F.Facts.made c.args.facts.now) (sym w.facts-is) (made_more g.F.Facts.made g.met.F.Facts.both_made c.args.facts.now c.loop-index.facts w.is_known.new.facts before.calls w.is_known.ensures.calls);
        few = (let few = before.few in let is = w.before-is in omega (arith, few, is));
      }
      | then-is_some+else-not-is_known w ↦ record {
        ready = subst g.F.Facts.ready (sym w.facts-is) w.is_known.ensures.stays_ready;
        calls = subst (MakesCalls g.F.Facts.made c.args.facts.now) (sym w.facts-is) (made_more g.F.Facts.made g.met.F.Facts.both_made c.args.facts.now c.loop-index.facts w.is_known.new.facts before.calls w.is_known.ensures.calls);
        few = (let few = before.few in let is = w.before-is in omega (arith, few, is));
      }
      | else-is_some+else-is_open w ↦ record {
        ready = subst g.F.Facts.ready (sym w.facts-is) before.ready;
        calls = subst (MakesCalls g.F.Facts.made c.args.facts.now) (sym w.facts-is) before.calls;
        few = (let few = before.few in let is = w.before-is in omega (arith, few, is));
      }
    ]
