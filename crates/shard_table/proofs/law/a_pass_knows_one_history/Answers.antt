use Rattle.shard_table.proofs.Knowing.{knows_well}
use Rattle.shard_table.proofs.law.a_pass_knows_one_history.Goals as goal

pub returns : goal.returns
returns c = knows_well c.args.table.now c.args.pass.now c.requires
