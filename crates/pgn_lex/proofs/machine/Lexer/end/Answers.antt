use Rattle.std.proofs.Common.{sym, ap, ◌∙◌}
use Rattle.pgn_lex.specs.Lexing.{LexerState}
use Rattle.pgn_lex.proofs.Fed.{end_tokens}
use Rattle.pgn_lex.proofs.machine.Lexer.end.Goals as goal

pub returns-clause-tokens : goal.returns-clause-tokens
returns-clause-tokens c =
    end_tokens c.self.inside.fed c.args.self.now.fed _ _ _ _ _ _ _ _ _ _ _ _ c.self.invariant (sym (ap (λ (s : LexerState). s.fed) c.self.view_is))
    (λ w v e f. c.in_ok-say.ensures.ok w v (c.deref.ensures.value ∙ e) (c.deref-2.ensures.value ∙ f))
