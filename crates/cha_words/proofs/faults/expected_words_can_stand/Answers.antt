use Rattle.cha_words.proofs.Expecting.{names_stand, numbers_stand, further_stand}
use Rattle.cha_words.proofs.faults.expected_words_can_stand.Goals as goal

pub returns : goal.returns
returns c = record { names = names_stand; numbers = numbers_stand; further = further_stand }
