use Rattle.cha_san.proofs.Written.{san_names}
use Rattle.cha_san.proofs.writing.written_moves_are_named.Goals as goal

pub returns : goal.returns
returns c = san_names
