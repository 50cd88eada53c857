-- A lexer that takes single bytes, as its contracts see it.
use Rattle.std.specs.Prelude.{◌≡◌, ℕ, ◌+◌, ◌≤◌, Bool, List, ◌++◌, length, take}
use Rattle.pgn_lex.specs.declared.kinds.Placed.{Placed}
use Rattle.pgn_lex.specs.declared.stages.Stage.{Stage}
use Rattle.pgn_lex.specs.Stages.{machine}

-- the bytes that it was fed, and whether their end was told
pub record LexerState : Type 0 where
  pub fed : List ℕ
  pub ended : Bool

-- tokens were appended, by which a text of these tokens grew to one of those; at most two
pub record Appends (out out' told told' : List Placed) : Type 0 where
  pub added : List Placed
  pub appended : out' ≡ out ++ added
  pub are_next : told' ≡ told ++ added
  pub few : length added ≤ 2

-- What a lexer keeps of the bytes that it was fed: its stage, and as much of the word or the name and of the value as their tokens keep;
-- of a value one byte more, which tells that it is cut. The line feeds that it has read tell the line.
pub record IsFed (fed : List ℕ) (stage : Stage) (start start_line at feeds : ℕ) (first : Bool) (word value : List ℕ) (word_room value_room : ℕ) : Type 0 where
  pub stage_is : stage ≡ (machine fed).stage
  pub start_is : start ≡ (machine fed).start
  pub start_line_is : start_line ≡ (machine fed).start_line
  pub at_is : at ≡ length fed
  pub line_is : feeds + 1 ≡ (machine fed).line
  pub few_feeds : feeds ≤ at
  pub first_is : first ≡ (machine fed).first
  pub word_is : word ≡ take 255 (machine fed).word
  pub value_is : value ≡ take 4097 (machine fed).value
  pub has_word_room : 255 ≤ word_room
  pub has_value_room : 4097 ≤ value_room
