-- What true verdicts cannot miss.
use Rattle.cha_verdict.proofs.law.sound_is_complete.Goals as goal
use Rattle.cha_verdict.proofs.Complete.{complete}

pub returns : goal.returns
returns c = complete
