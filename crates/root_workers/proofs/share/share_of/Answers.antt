use Rattle.std.proofs.Common.{arith}
use Rattle.root_workers.proofs.Sharing.{no_calls_made, deep_calls}
use Rattle.root_workers.proofs.share.share_of.Goals as goal

pub returns-then-task-le-WITHOUT_FACTS-clause-calls : goal.returns-then-task-le-WITHOUT_FACTS-clause-calls
returns-then-task-le-WITHOUT_FACTS-clause-calls g c = no_calls_made g.F.Facts.made c.args.facts.now c.args.task.now c.args.moves.now c.args.number c.args.count c.part_of.result (g.met.F.Facts.none_made c.args.facts.now) c.if-task-le-WITHOUT_FACTS.true

pub returns-clause-calls : goal.returns-clause-calls
returns-clause-calls g c =
    let more = c.if-task-le-WITHOUT_FACTS.false in
    deep_calls g.F.Facts.made c.args.facts.now c.part_of-work.new.facts c.args.task.now c.args.moves.now c.args.number c.args.count c.part_of-work.result c.part_of-work.ensures.calls (omega (arith, more))
