use Rattle.std.proofs.Common.{refl}
use Rattle.root_workers.proofs.Gathering.{share_at, below_count, mate_or, either_mate, lowest_none, lowest_more, lowest_end}
use Rattle.root_workers.proofs.gather.lowest_mate.Goals as goal

pub loop-number-init : goal.loop-number-init
loop-number-init g c = record { holds = tt; lowest = lowest_none (g.C.Crew.leaves c.args.crew.now) _ 0 refl }

pub loop-number-preserved : goal.loop-number-preserved
loop-number-preserved g c =
    let leaves = g.C.Crew.leaves c.args.crew.now in
    let share = share_at leaves c.args.task.now c.args.moves.now (g.C.Crew.count c.args.crew.now) c.loop-number.number c.work.result.now c.requires.shares (below_count c.loop-number.number c.workers-number-end.result (g.C.Crew.count c.args.crew.now) c.loop-number-test.true c.workers-number-end.ensures.value) c.work.ensures.left in
    record {
      holds = either_mate c.args.task.now c.args.moves.now c.loop-number.best c.work.result.now.mate c.lower-best.result c.loop-number.invariant.holds (mate_or c.args.task.now c.args.moves.now c.work.result.now.mate share.mate) c.lower-best.ensures.value;
      lowest = lowest_more leaves c.loop-number.number c.loop-number.best c.lower-best.result c.work.result.now c.loop-number.invariant.lowest c.work.ensures.only c.lower-best.ensures.no_higher.0 c.lower-best.ensures.no_higher.1;
    }

pub returns-clause-holds : goal.returns-clause-holds
returns-clause-holds g c = c.loop-number.invariant.holds

pub returns-clause-lowest : goal.returns-clause-lowest
returns-clause-lowest g c = lowest_end (g.C.Crew.leaves c.args.crew.now) c.loop-number.number c.workers-number-end.result (g.C.Crew.count c.args.crew.now) c.loop-number.best c.loop-number.invariant.lowest c.loop-number-test.false c.workers-number-end.ensures.value
