use Rattle.std.proofs.Common.{List, ℕ, ap, sym, ◌∙◌}
use Rattle.cha_san.specs.Resolving.{resolved}
use Rattle.cha_san.specs.Playing.{named_move}
use Rattle.cha_san.proofs.NamedMoves.{word_named, word_names_none, words_named}
use Rattle.cha_san.proofs.named_moves.moves_of.Goals as goal

pub after-position-requires : goal.after-position-requires
after-position-requires c = c.in-Some.ensures.legal

pub returns-in-None : goal.returns-in-None
returns-in-None c =
    word_names_none c.loop-word.position c.word-item.result c.args.words.now c.loop-word.word-index c.loop-word.moves _ c.loop-word-test.true c.word-item.is
    (sym c.in-None.is ∙ c.move_of.ensures.named ∙ ap (λ (w : List ℕ). named_move (resolved c.loop-word.position w)) c.items.ensures) c.loop-word.invariant

pub loop-word-preserved : goal.loop-word-preserved
loop-word-preserved c =
    word_named c.loop-word.position c.after-position.result c.in-Some.m c.word-item.result c.args.words.now c.loop-word.word-index c.loop-word.moves c.push.new.self _ c.loop-word-test.true c.word-item.is
    (sym c.in-Some.is ∙ c.move_of.ensures.named ∙ ap (λ (w : List ℕ). named_move (resolved c.loop-word.position w)) c.items.ensures) c.in_ok-push-in-Some.ensures.ok c.after-position.ensures c.loop-word.invariant

pub returns : goal.returns
returns c = words_named c.loop-word.position c.args.words.now c.loop-word.word-index c.loop-word.moves _ c.loop-word-test.false c.loop-word.invariant
