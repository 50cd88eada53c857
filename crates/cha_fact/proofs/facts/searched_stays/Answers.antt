use Rattle.std.proofs.Common.{◌++◌}
use Rattle.cha_fact.proofs.Searching.{searched_more, within_both}
use Rattle.cha_fact.proofs.facts.searched_stays.Goals as goal

pub returns : goal.returns
returns c = λ before entries behind q w d done. searched_more entries (before ++ entries ++ behind) (within_both before entries behind) q w d done
