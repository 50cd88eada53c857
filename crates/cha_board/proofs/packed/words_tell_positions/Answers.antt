use Rattle.cha_board.proofs.PackedWords.{words_tell}
use Rattle.cha_board.proofs.packed.words_tell_positions.Goals as goal

pub returns : goal.returns
returns c = words_tell
