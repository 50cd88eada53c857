use Rattle.std.proofs.Common.{subst}
use Rattle.cha_fact.specs.declared.calls.FactCall.TheVariants.{Store}
use Rattle.shard_table.specs.ShardRows.{row_key}
use Rattle.shard_table.specs.Shards.{empty}
use Rattle.shard_table.specs.Tables.{TakesTurn, pass_at, shard_number}
use Rattle.shard_table.proofs.Turning.{no_probed, stores, keeps}
use Rattle.shard_table.proofs.Knowing.{knows_well}
use Rattle.shard_table.proofs.table.Table.store.Goals as goal

pub unreachable-requires : goal.unreachable-requires
unreachable-requires g c =
    no_probed _ _ _ c.args.row c.in-Probed.field-0 (subst (λ r. TakesTurn (shard_number (row_key c.args.row)) c.args.self.now c.args.pass.now (Store c.args.row) r c.turn.new.pass) c.in-Probed.is c.turn.ensures.turned)

pub returns-clause-exactly : goal.returns-clause-exactly
returns-clause-exactly g c =
    let k = shard_number (row_key c.args.row) in
    stores (empty c.args.self.now.entries) (pass_at c.args.pass.now k) (pass_at c.turn.new.pass k) c.args.row c.in-Stored.stored c.in-Stored.ensures.turned

pub returns-clause-knows : goal.returns-clause-knows
returns-clause-knows g c = knows_well c.args.self.now c.turn.new.pass c.turn.ensures.of

pub returns-clause-kept : goal.returns-clause-kept
returns-clause-kept g c =
    let k = shard_number (row_key c.args.row) in
    keeps (empty c.args.self.now.entries) (pass_at c.args.pass.now k) (pass_at c.turn.new.pass k) c.args.row c.in-Stored.stored c.in-Stored.ensures.turned
