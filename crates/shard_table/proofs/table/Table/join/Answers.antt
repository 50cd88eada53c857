use Rattle.shard_table.specs.Tables.{pass_at}
use Rattle.shard_table.proofs.Eights.{join_first}
use Rattle.shard_table.proofs.Knowing.{knows_well}
use Rattle.shard_table.proofs.table.Table.join.Goals as goal

pub returns-clause-first : goal.returns-clause-first
returns-clause-first c = join_first c.args.pass.now c.join_each.new.pass (pass_at c.args.other) c.requires.first c.join_each.ensures.joined

pub returns-clause-knows : goal.returns-clause-knows
returns-clause-knows c = knows_well c.args.self.now c.join_each.new.pass c.join_each.ensures.of
