use Rattle.cha_fen.proofs.WrittenRead.{written_is_read}
use Rattle.cha_fen.proofs.written.written_is_read.Goals as goal

pub returns : goal.returns
returns c = written_is_read
