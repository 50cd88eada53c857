use Rattle.std.proofs.Common.{◌++◌, ◌∙◌, ap}
use Rattle.pgn_lex.proofs.KeptWords.{word_is}
use Rattle.pgn_lex.proofs.word_tokens.word.Goals as goal

pub returns-clause-value : goal.returns-clause-value
returns-clause-value c =
    word_is c.args.byte c.run_of-size.result c.min.result c.args.rest.now _ _ _ _ c.run_of-size.ensures.value c.run_of-size.ensures.bound
    c.split_at.ensures.front c.min.ensures c.split_at-2.ensures.front
    (c.in_ok-append.ensures.ok ∙ ap (λ text. text ++ c.split_at-2.result.0.now) c.in_ok-text.ensures.ok) c.word_said.ensures
