-- A tag pair from a stage on: what is still to be read of it.
use Rattle.std.specs.Prelude.{ℕ, Bool, false, List, [], ◌++◌, take, drop, Option, Some}
use Rattle.std.specs.List.{prefix_len}
use Rattle.pgn_lex.specs.declared.classes.PgnClass.TheVariants.{NameByte}
use Rattle.pgn_lex.specs.Classes.{in_pgn_class}
use Rattle.pgn_lex.specs.Tags.{◌>>=◌, TagRead, past_blanks, past_byte, value_after}

-- behind the closing quote
unfoldable pub tag_valued : List ℕ → List ℕ → List ℕ → Option TagRead
tag_valued name value bs = do
  rest ← past_byte 93 (past_blanks bs)
  Some (record { name = name; value = value; rest = rest })

-- within the value, of which so much was read
unfoldable pub tag_in_value : Bool → List ℕ → List ℕ → List ℕ → Option TagRead
tag_in_value escaped name front bs = do
  value ← value_after escaped bs
  tag_valued name (front ++ value.text) value.rest

-- behind the name
unfoldable pub tag_named : List ℕ → List ℕ → Option TagRead
tag_named name bs = do
  opened ← past_byte 34 (past_blanks bs)
  tag_in_value false name [] opened

-- within the name, of which so much was read
unfoldable pub tag_in_name : List ℕ → List ℕ → Option TagRead
tag_in_name front bs =
    tag_named (front ++ take (prefix_len (in_pgn_class NameByte) bs) bs) (drop (prefix_len (in_pgn_class NameByte) bs) bs)
