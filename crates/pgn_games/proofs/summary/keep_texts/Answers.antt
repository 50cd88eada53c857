use Rattle.std.proofs.Common.{codes}
use Rattle.pgn_games.proofs.KeptWords.{not_valued, on_ok, tag_valued, tag_wordless, wordless, valueless}
use Rattle.pgn_games.proofs.summary.keep_texts.Goals as goal

pub returns-in-Word-clause-variant : goal.returns-in-Word-clause-variant
returns-in-Word-clause-variant c = on_ok c.keep_word.result _ (not_valued (codes "Variant") c.args.tags.now.variant c.args.token _ c.in-Word.is)

pub returns-in-Word-clause-fen : goal.returns-in-Word-clause-fen
returns-in-Word-clause-fen c = on_ok c.keep_word.result _ (not_valued (codes "FEN") c.args.tags.now.fen c.args.token _ c.in-Word.is)

pub returns-in-Word-clause-termination : goal.returns-in-Word-clause-termination
returns-in-Word-clause-termination c = on_ok c.keep_word.result _ (not_valued (codes "Termination") c.args.tags.now.termination c.args.token _ c.in-Word.is)

pub returns-in-Tag-clause-words : goal.returns-in-Tag-clause-words
returns-in-Tag-clause-words c = tag_wordless c.args.words.now c.args.depth c.args.token _ _ _ c.requires c.in-Tag.is

pub returns-in-Tag-clause-variant : goal.returns-in-Tag-clause-variant
returns-in-Tag-clause-variant c = tag_valued (codes "Variant") c.args.tags.now.variant _ c.args.token _ _ _ _ c.in-Tag.is c.items.ensures c.keep.ensures.variant

pub returns-in-Tag-clause-fen : goal.returns-in-Tag-clause-fen
returns-in-Tag-clause-fen c = tag_valued (codes "FEN") c.args.tags.now.fen _ c.args.token _ _ _ _ c.in-Tag.is c.items.ensures c.keep.ensures.fen

pub returns-in-Tag-clause-termination : goal.returns-in-Tag-clause-termination
returns-in-Tag-clause-termination c = tag_valued (codes "Termination") c.args.tags.now.termination _ c.args.token _ _ _ _ c.in-Tag.is c.items.ensures c.keep.ensures.termination

pub returns-in_default : goal.returns-in_default
returns-in_default c = record {
  words = wordless c.args.words.now c.args.depth c.args.token c.requires c.in_default.not-Word;
  variant = valueless (codes "Variant") c.args.tags.now.variant c.args.token c.in_default.not-Tag;
  fen = valueless (codes "FEN") c.args.tags.now.fen c.args.token c.in_default.not-Tag;
  termination = valueless (codes "Termination") c.args.tags.now.termination c.args.token c.in_default.not-Tag;
  refused = tt;
}
