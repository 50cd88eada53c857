-- A lexer that takes single bytes: what each byte does at each stage.
use Rattle.std.specs.Prelude.{ℕ, ◌+◌, ◌==◌, Bool, true, false, not, ◌&&◌, ◌||◌, if◌then◌else◌, List, [], ◌∷◌, ◌++◌, take, Option, Some, None, nat_lt, length}
use Rattle.cha_list.specs.declared.classes.Class.TheVariants.{Blank, InLine, Digit}
use Rattle.cha_list.specs.Bytes.{in_class}
use Rattle.pgn_lex.specs.declared.classes.PgnClass.TheVariants.{NotBrace, WordByte, NameByte}
use Rattle.pgn_lex.specs.Classes.{in_pgn_class}
use Rattle.pgn_lex.specs.declared.kinds.Token.{Token}
use Rattle.pgn_lex.specs.declared.kinds.Token.TheVariants.{Tag, BadTag, Star, Enter, Leave, Bad, Unclosed}
use Rattle.pgn_lex.specs.declared.kinds.Placed.{Placed}
use Rattle.pgn_lex.specs.declared.stages.Stage.{Stage}
use Rattle.pgn_lex.specs.declared.stages.Stage.TheVariants.{Start, MarkBegun, MarkGrown, Marked, Between, RestOfLine, InComment, AfterDollar, InNumber, InWord, InTag, InName, AfterName, InValue, AfterBackslash, AfterValue, TagRead, Spoilt, StarRead, EnterRead, LeaveRead, BadRead}
use Rattle.pgn_lex.specs.declared.stages.Next.{Next}
use Rattle.pgn_lex.specs.declared.stages.Next.TheVariants.{Stays, Over}
use Rattle.pgn_lex.specs.Pieces.{is_white, word_token}
use Rattle.pgn_lex.specs.Tokens.{placed, line_after}

-- what the first byte of a piece begins, by the first rule that fits
unfoldable pub begun : Bool → ℕ → Stage
begun first b =
    if first && (b == 37) then RestOfLine
    else (if is_white b then Between
    else (if b == 59 then RestOfLine
    else (if b == 123 then InComment
    else (if b == 91 then InTag
    else (if b == 40 then EnterRead
    else (if b == 41 then LeaveRead
    else (if b == 42 then StarRead
    else (if b == 36 then AfterDollar
    else (if in_pgn_class WordByte b then InWord
    else BadRead)))))))))

-- a byte of the wanted kind belongs to the piece, and any other ends it
abbrev pub run_on : Bool → Stage → Next
run_on wanted stage = if wanted then Stays stage else Over

-- a byte that fits nowhere in a tag pair
abbrev pub spoils : ℕ → Next
spoils b = run_on (in_class InLine b) Spoilt

-- a byte behind a part of a tag pair: a blank, or the wanted byte that begins or ends the next part
abbrev pub after_part : ℕ → Stage → ℕ → Stage → Next
after_part b stage wanted next =
    if in_class Blank b then Stays stage else (if b == wanted then Stays next else spoils b)

-- a byte in a value
unfoldable pub in_value : ℕ → Next
in_value b =
    if b == 34 then Stays AfterValue
    else (if not (in_class InLine b) then Over
    else (if b == 92 then Stays AfterBackslash
    else Stays InValue))

-- a byte behind a backslash in a value
unfoldable pub past_backslash : ℕ → Next
past_backslash b = if (b == 34) || (b == 92) then Stays InValue else run_on (in_class InLine b) InValue

-- what a byte does to the piece that is being read
unfoldable pub next_stage : Stage → ℕ → Next
next_stage Start b = run_on (b == 239) MarkBegun
next_stage MarkBegun b = run_on (b == 187) MarkGrown
next_stage MarkGrown b = run_on (b == 191) Marked
next_stage RestOfLine b = run_on (in_class InLine b) RestOfLine
next_stage InComment b = if in_pgn_class NotBrace b then Stays InComment else Stays Between
next_stage AfterDollar b = run_on (in_class Digit b) InNumber
next_stage InNumber b = run_on (in_class Digit b) InNumber
next_stage InWord b = run_on (in_pgn_class WordByte b) InWord
next_stage InTag b =
    if in_class Blank b then Stays InTag else (if in_pgn_class NameByte b then Stays InName else spoils b)
next_stage InName b = if in_pgn_class NameByte b then Stays InName else after_part b AfterName 34 InValue
next_stage AfterName b = after_part b AfterName 34 InValue
next_stage InValue b = in_value b
next_stage AfterBackslash b = past_backslash b
next_stage AfterValue b = after_part b AfterValue 93 TagRead
next_stage Spoilt b = run_on (in_class InLine b) Spoilt
next_stage _ b = Over

-- the token of a piece that ended, by the word or the name and the value that were read
unfoldable pub token_at : Stage → List ℕ → List ℕ → Option Token
token_at InComment word value = Some Unclosed
token_at AfterDollar word value = Some Bad
token_at InWord word value = word_token (take 255 word)
token_at InTag word value = Some BadTag
token_at InName word value = Some BadTag
token_at AfterName word value = Some BadTag
token_at InValue word value = Some BadTag
token_at AfterBackslash word value = Some BadTag
token_at AfterValue word value = Some BadTag
token_at TagRead word value = Some (Tag (take 255 word) (take 4096 value) (nat_lt 4096 (length value)))
token_at Spoilt word value = Some BadTag
token_at StarRead word value = Some Star
token_at EnterRead word value = Some Enter
token_at LeaveRead word value = Some Leave
token_at BadRead word value = Some Bad
token_at _ word value = None

-- the token of a byte of the first line that begins nothing
abbrev pub bad_placed : ℕ → List Placed
bad_placed at = placed at (at + 1) 1 (Some Bad)

-- the tokens of the pieces that ended, from where they begin to where they end: two bytes of the mark EF BB BF are two that
-- begin nothing
unfoldable pub tokens_at : Stage → ℕ → ℕ → ℕ → List ℕ → List ℕ → List Placed
tokens_at MarkBegun start end line word value = bad_placed 0
tokens_at MarkGrown start end line word value = bad_placed 0 ++ bad_placed 1
tokens_at stage start end line word value = placed start end line (token_at stage word value)

-- a stage in which the last byte was one of a word or of a name
abbrev pub is_spelling : Stage → Bool
is_spelling InName = true
is_spelling InWord = true
is_spelling _ = false

-- what is read of a word or of a name, before one byte more: a name begins behind its bracket
abbrev pub word_so_far : Stage → List ℕ → List ℕ
word_so_far InTag word = []
word_so_far before word = word

-- what is read of a word or of a name, with one byte more
unfoldable pub word_after : Stage → Stage → ℕ → List ℕ → List ℕ
word_after before now b word = if is_spelling now then word_so_far before word ++ b ∷ [] else word

-- a stage in which the last byte was one of a value, or its opening quote
abbrev pub is_valuing : Stage → Bool
is_valuing InValue = true
is_valuing _ = false

-- what is read of a value, with one byte more; its opening quote is no part of it
unfoldable pub value_from : Stage → ℕ → List ℕ → List ℕ
value_from InValue b value = value ++ b ∷ []
value_from AfterBackslash b value = if (b == 34) || (b == 92) then value ++ b ∷ [] else value ++ 92 ∷ b ∷ []
value_from before b value = []

unfoldable pub grown_value : Stage → Stage → ℕ → List ℕ → List ℕ
grown_value before now b value = if is_valuing now then value_from before b value else value

-- a line begins behind a byte that ends one, and behind the mark at the front
unfoldable pub begins_line : Stage → ℕ → Bool
begins_line Marked b = true
begins_line stage b = not (in_class InLine b)

-- A lexer that takes single bytes: where and in which line the piece began that is being read, how many bytes were read, in
-- which line the next byte is and whether it is the first of its line, and what was read of a word or a name and of a value.
pub record Machine : Type 0 where
  pub stage : Stage
  pub start : ℕ
  pub start_line : ℕ
  pub at : ℕ
  pub line : ℕ
  pub first : Bool
  pub word : List ℕ
  pub value : List ℕ

-- before the first byte
abbrev pub at_front : Machine
at_front = record { stage = Start; start = 0; start_line = 1; at = 0; line = 1; first = true; word = []; value = [] }

-- after one byte more, which belongs to the piece or begins the next one
unfoldable pub stepped : Machine → ℕ → Next → Machine
stepped m b (Stays now) = record {
  stage = now;
  start = m.start;
  start_line = m.start_line;
  at = m.at + 1;
  line = line_after m.line b;
  first = begins_line now b;
  word = word_after m.stage now b m.word;
  value = grown_value m.stage now b m.value;
}
stepped m b Over = record {
  stage = begun m.first b;
  start = m.at;
  start_line = m.line;
  at = m.at + 1;
  line = line_after m.line b;
  first = not (in_class InLine b);
  word = b ∷ [];
  value = m.value;
}

-- a lexer that has read some bytes
unfoldable pub read_from : Machine → List ℕ → Machine
read_from m [] = m
read_from m (b ∷ bs) = read_from (stepped m b (next_stage m.stage b)) bs

abbrev pub machine : List ℕ → Machine
machine bytes = read_from at_front bytes
