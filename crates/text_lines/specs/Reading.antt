-- What a reader of lines has taken and given.
use Rattle.std.specs.Prelude.{◌≡◌, ℕ, ◌≤◌, Bool, true, false, List, ◌++◌, length, Option, Some, None, Result, Ok, Err}
use Rattle.cha_list.specs.declared.memory.NoMemory.{NoMemory}
use Rattle.cha_outside.specs.declared.gathering.ReadEnd.{ReadEnd}
use Rattle.text_lines.specs.declared.lines.TextLine.{TextLine}
use Rattle.text_lines.specs.Lines.{settled_lines}

-- the bytes taken from a source, how many of their lines were given, whether the source has ended, and whether a call failed
pub record ReaderState : Type 0 where
  pub taken : List ℕ
  pub given : ℕ
  pub ended : Bool
  pub failed : Bool

-- What was taken is a front in which no more lines are settled than so many, and one piece behind it: no piece was taken before it was needed
-- for one line more.
abbrev pub TookNoMore : List ℕ → List ℕ → ℕ → Type 0
TookNoMore taken piece given = (front : List ℕ) × (taken ≡ front ++ piece) × (length piece ≤ 65536) × (settled_lines front ≤ given)

-- a line was given
abbrev pub gives_line : Result (Option TextLine) ReadEnd → Bool
gives_line (Ok (Some line)) = true
gives_line (Ok None) = false
gives_line (Err end) = false

-- a line was found among the bytes taken
abbrev pub found_one : Result (Option TextLine) NoMemory → Bool
found_one (Ok (Some line)) = true
found_one (Ok None) = false
found_one (Err refused) = false
