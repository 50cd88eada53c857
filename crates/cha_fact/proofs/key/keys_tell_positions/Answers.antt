use Rattle.cha_fact.proofs.Searching.{keys_tell}
use Rattle.cha_fact.proofs.key.keys_tell_positions.Goals as goal

pub returns : goal.returns
returns c = keys_tell
