use Rattle.std.proofs.Common.{◌≡◌, List, Some, ap, sym, subst, slice_index_or, ◌∙◌}
use Rattle.cha_fact.specs.Truths.{Claim}
use Rattle.shard_table.specs.ShardRows.{row_key}
use Rattle.shard_table.specs.Shards.{find_row}
use Rattle.shard_table.proofs.Lasting.{found_key}
use Rattle.shard_table.proofs.listed.probe.Goals as goal

pub returns-in-Ok-clause-of_key : goal.returns-in-Ok-clause-of_key
returns-in-Ok-clause-of_key c =
    let row = c.index.result.now in
    let P : List Claim → Type 0 = λ xs. find_row c.args.key.now xs ≡ Some (slice_index_or xs c.in-Some.place row) in
    ap row_key c.in-Ok.ensures.value ∙ found_key c.args.key.now c.args.rows.now.items row (subst P c.deref.ensures.value (c.in-Some.ensures.found row) ∙ ap Some (sym c.index.ensures))
