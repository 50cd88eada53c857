use Rattle.std.proofs.Common.{ap}
use Rattle.pgn_lex.specs.Lexing.{LexerState}
use Rattle.pgn_games.proofs.KeptTokens.{opened, nothing_more}
use Rattle.pgn_games.proofs.cutter.Cutter.new.Goals as goal

pub returns-clause-open : goal.returns-clause-open
returns-clause-open c =
    opened _ _ _ _ _ (ap (λ (s : LexerState). s.fed) c.in_ok-lexer.ensures) (ap (λ (s : LexerState). s.ended) c.in_ok-lexer.ensures) c.new-2.ensures c.new-3.ensures.items c.new-4.ensures.items

pub returns-clause-waits : goal.returns-clause-waits
returns-clause-waits c = (_, nothing_more _ _ (ap (λ (s : LexerState). s.fed) c.in_ok-lexer.ensures) c.new-4.ensures.items)
