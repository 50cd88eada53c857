use Rattle.std.proofs.Common.{length, sym, ap, ◌∙◌, arith}
use Rattle.pgn_games.proofs.KeptWords.{none_kept, inside, a_mark, none_more, one_kept}
use Rattle.pgn_games.proofs.movetext.keep_word.Goals as goal

pub returns-then-depth-gt0-clause-ok : goal.returns-then-depth-gt0-clause-ok
returns-then-depth-gt0-clause-ok c = none_kept c.args.words.now _ c.requires (inside c.args.depth _ c.if-depth-gt0.true)

pub returns-then-items-eq-KEPT-clause-ok : goal.returns-then-items-eq-KEPT-clause-ok
returns-then-items-eq-KEPT-clause-ok c = none_more c.args.words.now _ (ap length (sym c.items.ensures) ∙ c.if-items-eq-KEPT.true)

pub returns-then-is_some-clause-ok : goal.returns-then-is_some-clause-ok
returns-then-is_some-clause-ok c =
    none_kept c.args.words.now _ c.requires (a_mark c.args.depth c.args.word _ _ _ c.items-2.ensures c.word_mark.ensures c.is_some.ensures c.if-is_some.true)

pub returns-clause-ok : goal.returns-clause-ok
returns-clause-ok c =
    one_kept c.args.words.now _ c.args.depth c.args.word _ _ _ (omega (arith, c.requires, c.if-items-eq-KEPT.false, ap length c.items.ensures)) (omega (arith, c.if-depth-gt0.false)) c.items-2.ensures c.word_mark.ensures c.is_some.ensures c.if-is_some.false c.in_ok-push.ensures.ok
