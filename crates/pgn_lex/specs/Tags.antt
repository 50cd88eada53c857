-- A tag pair, part by part (PGN standard, 8.1): blanks, a name, blanks, a value in quotes, blanks and a closing bracket.
use Rattle.std.specs.Prelude.{ℕ, ◌-◌, ◌==◌, Bool, true, false, not, ◌||◌, if◌then◌else◌, List, [], ◌∷◌, length, take, drop, Option, Some, None, nat_lt}
use Rattle.std.specs.List.{prefix_len}
use Rattle.cha_list.specs.declared.classes.Class.TheVariants.{Blank, InLine}
use Rattle.cha_list.specs.Bytes.{in_class}
use Rattle.pgn_lex.specs.declared.classes.PgnClass.TheVariants.{NameByte}
use Rattle.pgn_lex.specs.Classes.{in_pgn_class}
use Rattle.pgn_lex.specs.declared.kinds.Token.TheVariants.{Tag, BadTag}
use Rattle.pgn_lex.specs.declared.pieces.Piece.{Piece}
use Rattle.pgn_lex.specs.Pieces.{spoken_piece}

-- a text that was read, and the bytes after it
pub record Read : Type 0 where
  pub text : List ℕ
  pub rest : List ℕ

-- a tag pair that was read, and the bytes after it
pub record TagRead : Type 0 where
  pub name : List ℕ
  pub value : List ℕ
  pub rest : List ℕ

-- what follows spaces and tabs
abbrev pub past_blanks : List ℕ → List ℕ
past_blanks bs = drop (prefix_len (in_class Blank) bs) bs

-- what follows a wanted byte, where it stands in front
unfoldable pub past_byte : ℕ → List ℕ → Option (List ℕ)
past_byte wanted [] = None
past_byte wanted (b ∷ bs) = if b == wanted then Some bs else None

-- a name of one byte or more
unfoldable pub name_at : List ℕ → Option Read
name_at bs =
    let n = prefix_len (in_pgn_class NameByte) bs in
    if n == 0 then None else Some (record { text = take n bs; rest = drop n bs })

-- a byte in front of what was read
abbrev pub onto : ℕ → Option Read → Option Read
onto b None = None
onto b (Some r) = Some (record { text = b ∷ r.text; rest = r.rest })

-- A value to its closing quote, on one line (PGN standard, 7). The flag says that a backslash came just before: with a
-- quote or a backslash it stands for that byte, and else for itself.
unfoldable pub value_after : Bool → List ℕ → Option Read
value_after escaped [] = None
value_after false (b ∷ bs) =
    if b == 34 then Some (record { text = []; rest = bs })
    else (if not (in_class InLine b) then None
    else (if b == 92 then value_after true bs
    else onto b (value_after false bs)))
value_after true (b ∷ bs) =
    if (b == 34) || (b == 92) then onto b (value_after false bs)
    else (if not (in_class InLine b) then None
    else onto 92 (onto b (value_after false bs)))

infixl 10 ◌>>=◌
-- what is read after something that was read
abbrev pub ◌>>=◌ : {A B : Type 0} → Option A → (A → Option B) → Option B
None >>= f = None
(Some x) >>= f = f x

-- the parts of a tag pair after its bracket, in order
unfoldable pub tag_at : List ℕ → Option TagRead
tag_at bs = do
  name ← name_at (past_blanks bs)
  opened ← past_byte 34 (past_blanks name.rest)
  value ← value_after false opened
  rest ← past_byte 93 (past_blanks value.rest)
  Some (record { name = name.text; value = value.text; rest = rest })

-- the tag pair that was read, with 255 bytes of its name and 4096 of its value; or else the rest of the line
abbrev pub tag_or_line : List ℕ → Option TagRead → Piece
tag_or_line bs None = spoken_piece BadTag (prefix_len (in_class InLine) bs)
tag_or_line bs (Some t) =
    spoken_piece (Tag (take 255 t.name) (take 4096 t.value) (nat_lt 4096 (length t.value))) (length bs - length t.rest)

-- what a bracket begins
unfoldable pub tag_piece : List ℕ → Piece
tag_piece bs = tag_or_line bs (tag_at bs)
