-- The bytes of words, names and judgements (PGN standard, 7 and 8.1.1).
use Rattle.std.specs.Prelude.{ℕ, ◌==◌, Bool, not, ◌||◌}
use Rattle.cha_list.specs.Bytes.{is_digit, is_letter}
use Rattle.pgn_lex.specs.declared.classes.PgnClass.{PgnClass}
use Rattle.pgn_lex.specs.declared.classes.PgnClass.TheVariants.{NotBrace, WordByte, NameByte, Mark}

-- an underscore, plus, number sign, equals sign, colon, hyphen, slash, exclamation mark or question mark
abbrev pub is_word_sign : ℕ → Bool
is_word_sign b =
    (b == 95) || (b == 43) || (b == 35) || (b == 61) || (b == 58) || (b == 45) || (b == 47) || (b == 33) || (b == 63)

-- a byte is of a class of PGN: any but a closing brace, one of a word, one of a tag's name, or one that judges a move
unfoldable pub in_pgn_class : PgnClass → ℕ → Bool
in_pgn_class NotBrace b = not (b == 125)
in_pgn_class WordByte b = is_letter b || is_digit b || is_word_sign b
in_pgn_class NameByte b = is_letter b || is_digit b || (b == 95)
in_pgn_class Mark b = (b == 33) || (b == 63)
