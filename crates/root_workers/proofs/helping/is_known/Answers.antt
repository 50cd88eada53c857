use Rattle.root_workers.proofs.Calling.{made_some}
use Rattle.root_workers.proofs.helping.is_known.Goals as goal

pub returns-in-Found-clause-calls : goal.returns-in-Found-clause-calls
returns-in-Found-clause-calls g c = made_some g.F.Facts.made c.args.facts.now c.probe.new.self _ c.probe.ensures.entered

pub returns-in-Miss-clause-calls : goal.returns-in-Miss-clause-calls
returns-in-Miss-clause-calls g c = made_some g.F.Facts.made c.args.facts.now c.probe.new.self _ c.probe.ensures.entered

pub returns-in-Refused-clause-calls : goal.returns-in-Refused-clause-calls
returns-in-Refused-clause-calls g c = made_some g.F.Facts.made c.args.facts.now c.probe.new.self _ c.probe.ensures.entered
