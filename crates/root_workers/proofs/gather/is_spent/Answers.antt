use Rattle.std.proofs.Common.{refl}
use Rattle.root_workers.proofs.Gathering.{below_count, left_none, left_more, left_end}
use Rattle.root_workers.proofs.gather.is_spent.Goals as goal

pub loop-number-init : goal.loop-number-init
loop-number-init g c = left_none (g.C.Crew.leaves c.args.crew.now) 0 refl

pub loop-number-preserved : goal.loop-number-preserved
loop-number-preserved g c = left_more (g.C.Crew.leaves c.args.crew.now) c.loop-number.number c.work.result.now c.loop-number.invariant c.work.ensures.only c.if-work.false

pub returns-then-work-clause-spent : goal.returns-then-work-clause-spent
returns-then-work-clause-spent g c = λ _. (c.loop-number.number, c.work.result.now, below_count c.loop-number.number c.workers-number-end.result (g.C.Crew.count c.args.crew.now) c.loop-number-test.true c.workers-number-end.ensures.value, c.work.ensures.left, c.if-work.true)

pub returns-clause-left : goal.returns-clause-left
returns-clause-left g c = λ _. left_end (g.C.Crew.leaves c.args.crew.now) c.loop-number.number c.workers-number-end.result (g.C.Crew.count c.args.crew.now) c.loop-number.invariant c.loop-number-test.false c.workers-number-end.ensures.value
