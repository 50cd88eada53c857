use Rattle.cha_words.proofs.Counts.{mates_counted}
use Rattle.cha_words.proofs.reading.mates_are_bounded.Goals as goal

pub returns : goal.returns
returns c = mates_counted
