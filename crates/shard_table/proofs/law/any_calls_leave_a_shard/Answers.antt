use Rattle.shard_table.proofs.Lasting.{any_calls_hold}
use Rattle.shard_table.proofs.law.any_calls_leave_a_shard.Goals as goal

pub returns : goal.returns
returns c = any_calls_hold
