use Rattle.shard_table.specs.Tables.{pass_at}
use Rattle.shard_table.proofs.Eights.{split_first}
use Rattle.shard_table.proofs.Knowing.{knows_well}
use Rattle.shard_table.proofs.table.Table.split.Goals as goal

pub returns-clause-first : goal.returns-clause-first
returns-clause-first c = split_first c.args.pass.now c.split_each.new.pass (pass_at c.split_each.result) c.requires.first c.split_each.ensures.split

pub returns-clause-knows : goal.returns-clause-knows
returns-clause-knows c = (knows_well c.args.self.now c.split_each.new.pass c.split_each.ensures.of, knows_well c.args.self.now c.split_each.result c.split_each.ensures.new)
