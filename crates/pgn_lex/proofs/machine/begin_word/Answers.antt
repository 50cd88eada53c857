use Rattle.std.proofs.Common.{[]}
use Rattle.pgn_lex.proofs.machine.begin_word.Goals as goal

pub returns-clause-kept : goal.returns-clause-kept
returns-clause-kept c = c.keep.ensures.kept [] c.clear.ensures.items
