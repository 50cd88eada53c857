-- The lines of a text.
use Rattle.std.specs.Prelude.{ℕ, suc, ◌+◌, ◌==◌, Bool, false, not, ◌&&◌, ◌||◌, if◌then◌else◌, nat_lt, List, [], ◌∷◌, ◌++◌, take, length}
use Rattle.std.specs.List.{list_all}
use Rattle.cha_list.specs.declared.classes.Class.TheVariants.{Blank}
use Rattle.cha_list.specs.Bytes.{in_class}
use Rattle.text_lines.specs.declared.lines.TextLine.{TextLine}

abbrev pub begins_with_line_feed : List ℕ → Bool
begins_with_line_feed [] = false
begins_with_line_feed (b ∷ bs) = b == 10

abbrev pub onto_first : ℕ → List (List ℕ) → List (List ℕ)
onto_first b [] = (b ∷ []) ∷ []
onto_first b (first ∷ rest) = (b ∷ first) ∷ rest

-- The lines, without the line feed that ends each and without one carriage return right before it. What stands behind
-- the last line feed is a line too, unless it is nothing.
unfoldable pub lines : List ℕ → List (List ℕ)
lines [] = []
lines (b ∷ bs) =
    if (b == 13) && begins_with_line_feed bs then lines bs
    else (if b == 10 then [] ∷ lines bs else onto_first b (lines bs))

-- a line without one carriage return at its end
unfoldable pub without_return : List ℕ → List ℕ
without_return [] = []
without_return (b ∷ []) = if b == 13 then [] else b ∷ []
without_return (b ∷ c ∷ bs) = b ∷ without_return (c ∷ bs)

-- a line counts where it has a byte other than a space and a tab (this project)
abbrev pub counts : List ℕ → Bool
counts text = not (list_all (in_class Blank) text)

-- how many bytes of a line are kept: one more than a line may have
abbrev pub kept_bytes : ℕ
kept_bytes = 4097

-- a line that counts, under its number
unfoldable pub line_if : ℕ → List ℕ → List TextLine
line_if number text = if counts text then record { number = number; text = take kept_bytes text } ∷ [] else []

-- those that count of lines that are numbered from here on
unfoldable pub numbered : ℕ → List (List ℕ) → List TextLine
numbered number [] = []
numbered number (text ∷ texts) = line_if number text ++ numbered (number + 1) texts

-- the lines of a text that count, each with its number among all lines, from 1
unfoldable pub text_lines : List ℕ → List TextLine
text_lines bytes = numbered 1 (lines bytes)

-- how many bytes stand up to the last line feed, with it
unfoldable pub ended_size : List ℕ → ℕ
ended_size [] = 0
ended_size (b ∷ bs) = if (b == 10) || nat_lt 0 (ended_size bs) then suc (ended_size bs) else 0

-- how many lines that count are settled: a line feed ends each of them
unfoldable pub settled_lines : List ℕ → ℕ
settled_lines bytes = length (text_lines (take (ended_size bytes) bytes))
