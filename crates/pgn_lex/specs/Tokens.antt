-- The tokens of a text of games.
use Rattle.std.specs.Prelude.{ℕ, zero, suc, ◌+◌, ◌==◌, Bool, true, false, not, ◌&&◌, if◌then◌else◌, List, [], ◌∷◌, ◌++◌, drop, Option, Some, None, length, nat_lt}
use Rattle.cha_list.specs.declared.classes.Class.TheVariants.{InLine}
use Rattle.cha_list.specs.Bytes.{in_class}
use Rattle.pgn_lex.specs.declared.classes.PgnClass.TheVariants.{WordByte}
use Rattle.pgn_lex.specs.Classes.{in_pgn_class}
use Rattle.pgn_lex.specs.declared.kinds.Token.{Token}
use Rattle.pgn_lex.specs.declared.kinds.Token.TheVariants.{Star, Enter, Leave, Bad}
use Rattle.pgn_lex.specs.declared.kinds.Placed.{Placed}
use Rattle.pgn_lex.specs.declared.pieces.Piece.{Piece}
use Rattle.pgn_lex.specs.Pieces.{silent_piece, spoken_piece, is_white, line_piece, comment_piece, annotation_piece, word_piece}
use Rattle.pgn_lex.specs.Tags.{tag_piece}

-- The piece that begins with a byte, by the first rule that fits (PGN standard, 5 to 8). It depends on that byte, the
-- bytes after it, and whether the byte is the first of its line.
unfoldable pub piece : Bool → ℕ → List ℕ → Piece
piece first b bs =
    if first && (b == 37) then line_piece bs
    else (if is_white b then silent_piece 0
    else (if b == 59 then line_piece bs
    else (if b == 123 then comment_piece bs
    else (if b == 91 then tag_piece bs
    else (if b == 40 then spoken_piece Enter 0
    else (if b == 41 then spoken_piece Leave 0
    else (if b == 42 then spoken_piece Star 0
    else (if b == 36 then annotation_piece bs
    else (if in_pgn_class WordByte b then word_piece b bs
    else spoken_piece Bad 0)))))))))

-- the token of a piece, if it gives one: where it begins, where it ends, and in which line it begins
abbrev pub placed : ℕ → ℕ → ℕ → Option Token → List Placed
placed at end line None = []
placed at end line (Some token) = record { token = token; offset = at; end = end; line = line } ∷ []

-- the line behind a byte: a line feed begins the next one (this project)
unfoldable pub line_after : ℕ → ℕ → ℕ
line_after line b = if b == 10 then line + 1 else line

-- The tokens of bytes that begin at a place of the input, in a line. So many of them are passed first, which belong to a piece
-- that was taken; then each piece gives its token, and its other bytes are passed. A byte is the first of its line where the
-- byte before it ends a line.
unfoldable pub tokens_after : ℕ → ℕ → ℕ → Bool → List ℕ → List Placed
tokens_after pass at line first [] = []
tokens_after (suc pass) at line first (b ∷ bs) = tokens_after pass (at + 1) (line_after line b) (not (in_class InLine b)) bs
tokens_after zero at line first (b ∷ bs) =
    placed at (at + 1 + (piece first b bs).more) line (piece first b bs).token
    ++ tokens_after (piece first b bs).more (at + 1) (line_after line b) (not (in_class InLine b)) bs

-- the bytes EF BB BF at the front, with which some programs mark UTF-8
unfoldable pub has_mark : List ℕ → Bool
has_mark (a ∷ b ∷ c ∷ bs) = (a == 239) && (b == 187) && (c == 191)
has_mark _ = false

-- the tokens of a whole text
unfoldable pub tokens : List ℕ → List Placed
tokens bytes = if has_mark bytes then tokens_after 0 3 1 true (drop 3 bytes) else tokens_after 0 0 1 true bytes

-- The tokens of bytes that begin at a place of the input, but for that of a piece which reaches their end: so far it may yet
-- turn out another token, or be longer. So many bytes are passed first, as above.
unfoldable pub settled_after : ℕ → ℕ → ℕ → Bool → List ℕ → List Placed
settled_after pass at line first [] = []
settled_after (suc pass) at line first (b ∷ bs) = settled_after pass (at + 1) (line_after line b) (not (in_class InLine b)) bs
settled_after zero at line first (b ∷ bs) =
    (if nat_lt (piece first b bs).more (length bs) then placed at (at + 1 + (piece first b bs).more) line (piece first b bs).token else [])
    ++ settled_after (piece first b bs).more (at + 1) (line_after line b) (not (in_class InLine b)) bs

-- two bytes of the mark EF BB BF, whose third may yet come
unfoldable pub has_half_mark : List ℕ → Bool
has_half_mark (a ∷ b ∷ []) = (a == 239) && (b == 187)
has_half_mark _ = false

-- The tokens that are settled in a text: a byte follows the piece of each, so whatever bytes follow the text, they are the
-- first tokens of the whole.
unfoldable pub settled_tokens : List ℕ → List Placed
settled_tokens bytes =
    if has_half_mark bytes then []
    else (if has_mark bytes then settled_after 0 3 1 true (drop 3 bytes) else settled_after 0 0 1 true bytes)
