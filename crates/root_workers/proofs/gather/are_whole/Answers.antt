use Rattle.std.proofs.Common.{refl, rules}
use Rattle.root_workers.proofs.Gathering.{below_count, whole_none, whole_more, whole_end}
use Rattle.root_workers.proofs.gather.are_whole.Goals as goal

pub loop-number-init : goal.loop-number-init
loop-number-init g c = whole_none (g.C.Crew.leaves c.args.crew.now) 0 refl

pub loop-number-preserved : goal.loop-number-preserved
loop-number-preserved g c = whole_more (g.C.Crew.leaves c.args.crew.now) c.loop-number.number c.work.result.now c.loop-number.invariant c.work.ensures.left (c.is_whole.ensures.0 (let not = c.if-not-is_whole.false in search rules))

pub returns-clause-whole : goal.returns-clause-whole
returns-clause-whole g c = λ _. whole_end (g.C.Crew.leaves c.args.crew.now) c.loop-number.number c.workers-number-end.result (g.C.Crew.count c.args.crew.now) c.loop-number.invariant c.loop-number-test.false c.workers-number-end.ensures.value

pub returns-then-not-is_whole-clause-open : goal.returns-then-not-is_whole-clause-open
returns-then-not-is_whole-clause-open g c = λ _. (
  c.loop-number.number,
  c.work.result.now,
  below_count c.loop-number.number c.workers-number-end.result (g.C.Crew.count c.args.crew.now) c.loop-number-test.true c.workers-number-end.ensures.value,
  c.work.ensures.left,
  (λ whole. let is = c.is_whole.ensures.1 whole in let not = c.if-not-is_whole.true in cc),
)
