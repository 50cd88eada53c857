use Rattle.std.proofs.Common.{not, refl, sym, ap, ◌∙◌, [], ◌∷◌, ◌++◌}
use Rattle.pgn_lex.specs.Lexing.{LexerState}
use Rattle.pgn_lex.specs.Stages.{machine}
use Rattle.pgn_lex.proofs.Fed.{fed_stays, fed_over, stays_tokens, over_tokens}
use Rattle.pgn_lex.proofs.machine.Lexer.feed.Goals as goal

pub invariant_of-self : goal.invariant_of-self
invariant_of-self c =
    let h = c.self.invariant in
    fed_stays c.self.inside.fed _ _ _ _ _ _ _ _ _ _ _ c.args.byte h (c.push.ensures ∙ ap (λ b. c.self.inside.fed ++ b ∷ []) c.of.ensures) c.in-Stays.now _ _ _ _ _ _ (sym c.in-Stays.is ∙ c.what_follows.ensures) c.feeds_with-self-inside.ensures.value c.feeds_with-self-inside.ensures.bound c.line_begins-self-inside.ensures
    (c.keep_word.ensures.kept (machine c.self.inside.fed).word h.word_is) (c.keep_value.ensures.kept (machine c.self.inside.fed).value h.value_is) c.keep_word.ensures.room c.keep_value.ensures.room

pub invariant_of-self-in-Over : goal.invariant_of-self-in-Over
invariant_of-self-in-Over c =
    fed_over c.self.inside.fed _ _ _ _ _ _ _ _ _ _ _ c.args.byte c.self.invariant (c.push-in-Over.ensures ∙ ap (λ b. c.self.inside.fed ++ b ∷ []) c.of-in-Over.ensures) _ _ _ _ _ _ (sym c.in-Over.is ∙ c.what_follows.ensures) refl c.feeds_with-self-inside-in-Over.ensures.value c.feeds_with-self-inside-in-Over.ensures.bound c.what_begins-self-inside.ensures
    (ap not c.is_of.ensures) c.begin_word.ensures.kept c.begin_word.ensures.room

pub returns-in-Stays-clause-tokens : goal.returns-in-Stays-clause-tokens
returns-in-Stays-clause-tokens c =
    stays_tokens c.self.inside.fed _ _ _ _ _ _ _ _ _ _ _ c.args.byte c.self.invariant (c.push.ensures ∙ ap (λ b. c.self.inside.fed ++ b ∷ []) c.of.ensures) c.args.self.now.fed c.in-Stays.now _ (sym (ap (λ (s : LexerState). s.fed) c.self.view_is)) (sym c.in-Stays.is ∙ c.what_follows.ensures)

pub returns-in_ok-say-in-Over-clause-tokens : goal.returns-in_ok-say-in-Over-clause-tokens
returns-in_ok-say-in-Over-clause-tokens c =
    over_tokens c.self.inside.fed _ _ _ _ _ _ _ _ _ _ _ c.args.byte c.self.invariant (c.push-in-Over.ensures ∙ ap (λ b. c.self.inside.fed ++ b ∷ []) c.of-in-Over.ensures) c.args.self.now.fed _ _ (sym (ap (λ (s : LexerState). s.fed) c.self.view_is)) (sym c.in-Over.is ∙ c.what_follows.ensures)
    (λ w v e f. c.in_ok-say-in-Over.ensures.ok w v (c.deref.ensures.value ∙ e) (c.deref-in-Over.ensures.value ∙ f))
