use Rattle.std.proofs.Common.{[], ◌∷◌}
use Rattle.cha_fact.specs.Entries.{store_entry}
use Rattle.root_workers.proofs.Staffing.{after_hiring, when_refused}
use Rattle.root_workers.proofs.staff.Staff.store.Goals as goal

pub returns-in-Some-clause-made : goal.returns-in-Some-clause-made
returns-in-Some-clause-made g c = after_hiring 0 c.args.self.now c.hire.new.self c.in-Some.hired c.store.new.self (store_entry c.args.row c.store.result ∷ []) (c.hire.ensures.nothing 0) c.in-Some.is c.store.ensures.made

pub returns-in-None-clause-made : goal.returns-in-None-clause-made
returns-in-None-clause-made g c = when_refused 0 c.args.self.now c.hire.new.self [] _ (c.hire.ensures.nothing 0) (c.hire.ensures.hired c.in-None.is)
