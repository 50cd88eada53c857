use Rattle.std.proofs.Common.{[], ◌∷◌, slice_index_or}
use Rattle.std.proofs.lemmas.List.{length-set}
use Rattle.cha_fact.specs.declared.calls.FactCall.TheVariants.{Probe as Asked}
use Rattle.cha_fact.specs.declared.calls.FactReply.TheVariants.{Probed}
use Rattle.cha_fact.specs.Entries.{probe_entry}
use Rattle.shard_table.proofs.OneEntry.{turn_makes}
use Rattle.root_workers.proofs.Crewing.{first_makes}
use Rattle.root_workers.proofs.many.first_probe.Goals as goal

pub returns-clause-made : goal.returns-clause-made
returns-clause-made g c =
    let first = slice_index_or c.args.crew.now 0 c.index-crew-0.result in
    let made = turn_makes c.args.table.now first.pass c.probe.new.pass (Asked c.args.key.now) (Probed c.probe.result) c.probe.ensures.turned c.probe.ensures.others in
    first_makes c.args.crew.now (record { number = first.number; pass = c.probe.new.pass; work = first.work }) c.index-crew-0.result (probe_entry c.args.key.now c.probe.result ∷ []) c.requires.crew.some made (length-set c.args.crew.now 0 _)
