use Rattle.shard_table.proofs.Keying.{key_tells}
use Rattle.shard_table.proofs.law.keys_are_compared_whole.Goals as goal

pub returns : goal.returns
returns c = key_tells
