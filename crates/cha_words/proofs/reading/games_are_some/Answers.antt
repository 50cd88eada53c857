use Rattle.cha_words.proofs.Counts.{counted}
use Rattle.cha_words.proofs.reading.games_are_some.Goals as goal

pub returns : goal.returns
returns c = counted
