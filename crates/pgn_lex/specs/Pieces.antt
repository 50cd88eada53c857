-- What a rule takes of a text: the piece that begins with a byte, from the bytes after it.
use Rattle.std.specs.Prelude.{ℕ, ◌+◌, ◌==◌, Bool, ◌||◌, if◌then◌else◌, List, ◌∷◌, length, take, Option, Some, None}
use Rattle.std.specs.List.{prefix_len, list_all}
use Rattle.cha_list.specs.declared.classes.Class.TheVariants.{InLine, Digit}
use Rattle.cha_list.specs.Bytes.{in_class, is_from}
use Rattle.pgn_lex.specs.declared.classes.PgnClass.TheVariants.{NotBrace, WordByte, Mark}
use Rattle.pgn_lex.specs.Classes.{in_pgn_class}
use Rattle.pgn_lex.specs.declared.kinds.Token.{Token}
use Rattle.pgn_lex.specs.declared.kinds.Token.TheVariants.{Word, Bad, Unclosed}
use Rattle.pgn_lex.specs.declared.pieces.Piece.{Piece}

-- a piece of so many bytes after its first, without a token
abbrev pub silent_piece : ℕ → Piece
silent_piece more = record { more = more; token = None }

-- a piece of so many bytes after its first, with a token
abbrev pub spoken_piece : Token → ℕ → Piece
spoken_piece token more = record { more = more; token = Some token }

-- white space, and the period of a move number (PGN standard, 7)
unfoldable pub is_white : ℕ → Bool
is_white b = is_from 9 13 b || (b == 32) || (b == 46)

-- the rest of the line, which an escape and a comment from `;` take (PGN standard, 5 and 6)
unfoldable pub line_piece : List ℕ → Piece
line_piece bs = silent_piece (prefix_len (in_class InLine) bs)

-- a comment to the next closing brace: comments do not nest (PGN standard, 5)
unfoldable pub comment_piece : List ℕ → Piece
comment_piece bs =
    let n = prefix_len (in_pgn_class NotBrace) bs in
    if n == length bs then spoken_piece Unclosed n else silent_piece (n + 1)

-- the number of a numeric annotation glyph, of one digit or more (PGN standard, 7)
unfoldable pub annotation_piece : List ℕ → Piece
annotation_piece bs =
    let n = prefix_len (in_class Digit) bs in
    if n == 0 then spoken_piece Bad 0 else silent_piece n

-- a word of digits alone is a move number, and one of ! and ? alone judges a move: neither gives a token (this project)
unfoldable pub word_token : List ℕ → Option Token
word_token word = if list_all (in_class Digit) word || list_all (in_pgn_class Mark) word then None else Some (Word word)

-- the longest run of the bytes of words, of which the first 255 are kept (PGN standard, 7)
unfoldable pub word_piece : ℕ → List ℕ → Piece
word_piece b bs =
    let n = prefix_len (in_pgn_class WordByte) bs in
    record { more = n; token = word_token (take 255 (b ∷ take n bs)) }
