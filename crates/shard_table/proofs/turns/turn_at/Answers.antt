use Rattle.std.proofs.Common.{arith}
use Rattle.shard_table.specs.Shards.{empty}
use Rattle.shard_table.specs.Tables.{IsOfTable}
use Rattle.shard_table.proofs.PassAt.{get_index, pass_else, turned_at, of_all}
use Rattle.shard_table.proofs.turns.turn_at.Goals as goal

pub turn-requires : goal.turn-requires
unfolding IsOfTable
turn-requires g c =
    let few = c.requires.shard in
    let a = c.args.table.now.eight in
    let b = c.args.pass.now.eight in
    c.requires.of c.args.shard _ _ (get_index c.args.table.now.cells c.args.shard _ (omega (arith, few, a))) (get_index c.args.pass.now.passes c.args.shard _ (omega (arith, few, b)))

pub returns-clause-of : goal.returns-clause-of
unfolding IsOfTable
returns-clause-of g c =
    let few = c.requires.shard in
    let a = c.args.table.now.eight in
    of_all c.args.table.now.cells c.args.pass.now.passes c.args.shard c.index-table-shard.result _ (omega (arith, few, a)) c.requires.of c.turn.ensures.of

pub returns-clause-turned : goal.returns-clause-turned
returns-clause-turned g c =
    let few = c.requires.shard in
    let a = c.args.table.now.eight in
    let b = c.args.pass.now.eight in
    turned_at (empty c.args.table.now.entries) _ (c.args.table.now.starts c.args.shard _ (get_index c.args.table.now.cells c.args.shard c.index-table-shard.result (omega (arith, few, a))))
    c.args.pass.now.passes c.args.shard c.index-pass-shard.result _ c.args.call c.turn.result (omega (arith, few, b)) c.turn.ensures.turned

pub returns-clause-others : goal.returns-clause-others
returns-clause-others g c = λ j apart. pass_else c.args.pass.now.passes c.args.shard j _ apart
