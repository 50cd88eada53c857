use Rattle.pgn_lex.proofs.Feeding.{settled_first}
use Rattle.pgn_lex.proofs.settling.settled_tokens_are_the_first.Goals as goal

pub returns : goal.returns
returns c = λ bytes rest. (_, settled_first bytes rest)
