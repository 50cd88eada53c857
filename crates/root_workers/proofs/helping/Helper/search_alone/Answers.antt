use Rattle.root_workers.proofs.Calling.{made_none, made_some}
use Rattle.root_workers.proofs.helping.Helper.search_alone.Goals as goal

pub returns-in_default-clause-calls : goal.returns-in_default-clause-calls
returns-in_default-clause-calls g c = made_none g.F.Facts.made c.args.facts.now (g.met.F.Facts.none_made c.args.facts.now)

pub returns-in-NoneWithin-clause-calls : goal.returns-in-NoneWithin-clause-calls
returns-in-NoneWithin-clause-calls g c = made_some g.F.Facts.made c.args.facts.now c.store-stored.new.self _ c.store-stored.ensures.entered

pub returns-in-Mate-clause-calls : goal.returns-in-Mate-clause-calls
returns-in-Mate-clause-calls g c = made_none g.F.Facts.made c.args.facts.now (g.met.F.Facts.none_made c.args.facts.now)

pub returns-in-Spent-clause-calls : goal.returns-in-Spent-clause-calls
returns-in-Spent-clause-calls g c = made_none g.F.Facts.made c.args.facts.now (g.met.F.Facts.none_made c.args.facts.now)
