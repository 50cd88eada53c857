use Rattle.std.proofs.Common.{subst, sym, arith}
use Rattle.root_workers.specs.Helps.{MakesCalls}
use Rattle.root_workers.proofs.Calling.{made_none, made_more}
use Rattle.root_workers.proofs.helping.Helper.+helping.Goals as goal
use Rattle.root_workers.proofs.helping.Helper.+helping.Goals.{else-loop-test, then-loop-test+else-left-eq0+else-is_over+in_default-next_open}

pub returns-in_default-clause-calls : goal.returns-in_default-clause-calls
returns-in_default-clause-calls g t c = made_none g.F.Facts.made c.args.facts.now (g.met.F.Facts.none_made c.args.facts.now)

pub loop-init : goal.loop-init
loop-init g t c = record {
  ready = c.requires.ready;
  calls = made_none g.F.Facts.made c.args.facts.now (g.met.F.Facts.none_made c.args.facts.now);
  less = omega arith;
}

pub loop-preserved : goal.loop-preserved
loop-preserved g t c =
    let before = c.loop.invariant in
    record {
      ready = c.help_below-left.ensures.stays_ready;
      calls = made_more g.F.Facts.made g.met.F.Facts.both_made c.args.facts.now c.next_open.new.facts c.help_below-left.new.facts
          (made_more g.F.Facts.made g.met.F.Facts.both_made c.args.facts.now c.loop.facts c.next_open.new.facts before.calls c.next_open.ensures.calls)
          c.help_below-left.ensures.calls;
      less = (let less = before.less in let fewer = c.help_below-left.ensures.less in omega (arith, less, fewer));
    }

-- the calls up to the end of the loop
pub returns-in-Some-root_move-clause-calls : goal.returns-in-Some-root_move-clause-calls
returns-in-Some-root_move-clause-calls g t c =
    made_more g.F.Facts.made g.met.F.Facts.both_made c.args.facts.now c.loop-test.facts c.at_once.new.facts
    (elim c.loop-test.branch [
      | else-loop-test w ↦ subst (MakesCalls g.F.Facts.made c.args.facts.now) (sym w.facts-is) c.loop.invariant.calls
      | then-loop-test+else-left-eq0+else-is_over+in_default-next_open w ↦ subst (MakesCalls g.F.Facts.made c.args.facts.now) (sym w.facts-is) (made_more g.F.Facts.made g.met.F.Facts.both_made c.args.facts.now c.loop.facts w.next_open.new.facts c.loop.invariant.calls w.next_open.ensures.calls)
    ])
    c.at_once.ensures.calls

pub returns-clause-calls : goal.returns-clause-calls
returns-clause-calls g t c =
    elim c.loop-test.branch [
      | else-loop-test w ↦ subst (MakesCalls g.F.Facts.made c.args.facts.now) (sym w.facts-is) c.loop.invariant.calls
      | then-loop-test+else-left-eq0+else-is_over+in_default-next_open w ↦ subst (MakesCalls g.F.Facts.made c.args.facts.now) (sym w.facts-is) (made_more g.F.Facts.made g.met.F.Facts.both_made c.args.facts.now c.loop.facts w.next_open.new.facts c.loop.invariant.calls w.next_open.ensures.calls)
    ]
