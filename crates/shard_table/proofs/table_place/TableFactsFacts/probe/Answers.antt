use Rattle.std.proofs.Common.{refl}
use Rattle.cha_fact.specs.declared.calls.FactCall.TheVariants.{Probe as Asked}
use Rattle.cha_fact.specs.declared.calls.FactReply.TheVariants.{Probed}
use Rattle.shard_table.proofs.OneEntry.{turn_makes}
use Rattle.shard_table.proofs.table_place.TableFactsFacts.probe.Goals as goal

pub returns-clause-entered : goal.returns-clause-entered
returns-clause-entered g c =
    (refl, refl, turn_makes c.args.self.now.table.now c.args.self.now.pass.now c.probe.new.pass (Asked c.args.key.now) (Probed c.probe.result) c.probe.ensures.turned c.probe.ensures.others)
