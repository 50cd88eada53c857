-- A text as lines (this project).
use Rattle.std.specs.Prelude.{ℕ, ◌==◌, if◌then◌else◌, List, [], ◌∷◌}

-- a byte before the first line, if there is one
abbrev pub before_first : ℕ → List (List ℕ) → List (List ℕ)
before_first b [] = []
before_first b (line ∷ lines) = (b ∷ line) ∷ lines

-- the lines that end with a line feed
unfoldable pub lines_of : List ℕ → List (List ℕ)
lines_of [] = []
lines_of (b ∷ bs) = if b == 10 then [] ∷ lines_of bs else before_first b (lines_of bs)

-- a byte before what is behind the last line feed, unless a line feed is still to come
abbrev pub before_tail : ℕ → List (List ℕ) → List ℕ → List ℕ
before_tail b [] tail = b ∷ tail
before_tail b (line ∷ lines) tail = tail

-- what is behind the last line feed
unfoldable pub tail_of : List ℕ → List ℕ
tail_of [] = []
tail_of (b ∷ bs) = if b == 10 then tail_of bs else before_tail b (lines_of bs) (tail_of bs)
