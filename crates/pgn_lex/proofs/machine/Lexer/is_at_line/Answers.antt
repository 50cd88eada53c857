use Rattle.std.proofs.Common.{ap, ◌∙◌}
use Rattle.pgn_lex.specs.Lexing.{LexerState}
use Rattle.pgn_lex.specs.Lines.{ends_line}
use Rattle.pgn_lex.proofs.LineEnds.{machine_first}
use Rattle.pgn_lex.proofs.machine.Lexer.is_at_line.Goals as goal

pub returns : goal.returns
returns c = c.self.invariant.first_is ∙ machine_first c.self.inside.fed ∙ ap (λ (s : LexerState). ends_line s.fed) c.self.view_is
