use Rattle.std.proofs.Common.{arith}
use Rattle.shard_table.proofs.Knowing.{knows_well}
use Rattle.root_workers.proofs.PassesTaken.{none_dismissed, worker_of, one_dismissed, all_dismissed, no_worker}
use Rattle.root_workers.proofs.dismissing.dismiss.Goals as goal

pub loop-worker-init : goal.loop-worker-init
loop-worker-init c = record { of = c.requires.of; first = c.requires.first; dismissed = none_dismissed c.args.pass.now c.args.crew.items }

pub join-requires-clause-of : goal.join-requires-clause-of
join-requires-clause-of c = (
  c.loop-worker.invariant.of,
  worker_of c.args.table.now c.args.pass.now c.args.crew.items c.loop-worker.left.items c.pop.new.self.items c.in-Some.worker c.loop-worker.pass c.loop-worker.pass c.loop-worker.invariant.dismissed c.in-Some.ensures.items c.requires.crew,
)

pub loop-worker-preserved : goal.loop-worker-preserved
loop-worker-preserved c = record {
  of = c.join.ensures.of;
  first = c.join.ensures.first;
  dismissed = one_dismissed c.args.table.now c.args.pass.now c.args.crew.items c.loop-worker.left.items c.pop.new.self.items c.in-Some.worker c.loop-worker.pass c.join.new.pass c.loop-worker.invariant.dismissed c.in-Some.ensures.items c.join.ensures.joined c.join.ensures.taken;
}

pub returns-clause-one_history : goal.returns-clause-one_history
returns-clause-one_history c =
    let ok = c.loop-worker.left.ok.0 in
    let none = c.in_default.ensures.cases.0 in
    all_dismissed c.args.table.now c.args.pass.now c.args.crew.items c.loop-worker.left.items c.loop-worker.pass c.loop-worker.invariant.dismissed (no_worker c.loop-worker.left.items (omega (arith, ok, none))) (knows_well c.args.table.now c.loop-worker.pass c.loop-worker.invariant.of)

pub returns-clause-knows : goal.returns-clause-knows
returns-clause-knows c = knows_well c.args.table.now c.loop-worker.pass c.loop-worker.invariant.of
