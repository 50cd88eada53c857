use Rattle.root_workers.proofs.Calling.{made_none}
use Rattle.root_workers.proofs.helping.Helper.help.Goals as goal

pub returns-then-is_none-clause-calls : goal.returns-then-is_none-clause-calls
returns-then-is_none-clause-calls g c = made_none g.F.Facts.made c.args.facts.now (g.met.F.Facts.none_made c.args.facts.now)

pub returns-in_default-clause-calls : goal.returns-in_default-clause-calls
returns-in_default-clause-calls g c = made_none g.F.Facts.made c.args.facts.now (g.met.F.Facts.none_made c.args.facts.now)
