use Rattle.std.proofs.Common.{[], ◌∷◌, slice_index_or}
use Rattle.std.proofs.lemmas.List.{length-set}
use Rattle.cha_fact.specs.declared.calls.FactCall.TheVariants.{Store}
use Rattle.cha_fact.specs.declared.calls.FactReply.TheVariants.{Stored as StoredAs}
use Rattle.cha_fact.specs.Entries.{store_entry}
use Rattle.shard_table.proofs.OneEntry.{turn_makes}
use Rattle.root_workers.proofs.Crewing.{first_makes}
use Rattle.root_workers.proofs.many.first_store.Goals as goal

pub returns-clause-made : goal.returns-clause-made
returns-clause-made g c =
    let first = slice_index_or c.args.crew.now 0 c.index-crew-0.result in
    let made = turn_makes c.args.table.now first.pass c.store.new.pass (Store c.args.row) (StoredAs c.store.result) c.store.ensures.turned c.store.ensures.others in
    first_makes c.args.crew.now (record { number = first.number; pass = c.store.new.pass; work = first.work }) c.index-crew-0.result (store_entry c.args.row c.store.result ∷ []) c.requires.crew.some made (length-set c.args.crew.now 0 _)
