use Rattle.std.proofs.Common.{refl}
use Rattle.cha_fact.specs.declared.calls.FactCall.TheVariants.{Store}
use Rattle.cha_fact.specs.declared.calls.FactReply.TheVariants.{Stored as StoredAs}
use Rattle.shard_table.proofs.OneEntry.{turn_makes}
use Rattle.shard_table.proofs.table_place.TableFactsFacts.store.Goals as goal

pub returns-clause-entered : goal.returns-clause-entered
returns-clause-entered g c =
    (refl, refl, turn_makes c.args.self.now.table.now c.args.self.now.pass.now c.store.new.pass (Store c.args.row) (StoredAs c.store.result) c.store.ensures.turned c.store.ensures.others)
