-- The first field: what stands on the squares (PGN standard, 16.1.3.1).
use Rattle.std.specs.Prelude.{ℕ, ◌-◌, ◌==◌, Bool, not, if◌then◌else◌, List, [], ◌∷◌, ◌++◌, length, replicate, Option, Some, None}
use Rattle.cha_list.specs.Bytes.{is_from}
use Rattle.cha_board.specs.declared.men.Man.{Man}
use Rattle.cha_board.specs.Letters.{man_of}

-- a byte of a row: any but a slash
abbrev pub in_row : ℕ → Bool
in_row b = not (b == 47)

-- a byte in front of the first row
abbrev pub onto_first : ℕ → List (List ℕ) → List (List ℕ)
onto_first b [] = []
onto_first b (row ∷ rows) = (b ∷ row) ∷ rows

-- the rows: the bytes between slashes
unfoldable pub rows : List ℕ → List (List ℕ)
rows [] = [] ∷ []
rows (b ∷ bs) = if b == 47 then [] ∷ rows bs else onto_first b (rows bs)

-- the one square on which a man stands, if there is a man
abbrev pub one_square : Option Man → Option (List (Option Man))
one_square None = None
one_square (Some man) = Some (Some man ∷ [])

-- the squares of one byte of a row: a man, or one to eight empty squares
unfoldable pub squares_of : ℕ → Option (List (Option Man))
squares_of b = if is_from 49 56 b then Some (replicate (b - 48) None) else one_square (man_of b)

-- one list behind another, if there are both
abbrev pub joined : Option (List (Option Man)) → Option (List (Option Man)) → Option (List (Option Man))
joined None b = None
joined (Some a) None = None
joined (Some a) (Some b) = Some (a ++ b)

-- the squares of a row, from the a-file on (digits may follow one another, as in 44: this project)
unfoldable pub row_squares : List ℕ → Option (List (Option Man))
row_squares [] = Some []
row_squares (b ∷ bs) = joined (squares_of b) (row_squares bs)

-- squares, if there are exactly n
abbrev pub if_size : ℕ → Option (List (Option Man)) → Option (List (Option Man))
if_size n None = None
if_size n (Some men) = if length men == n then Some men else None

-- the squares of rows that come from the highest to the lowest: those of the lowest row first, eight of each
unfoldable pub men_upward : List (List ℕ) → Option (List (Option Man))
men_upward [] = Some []
men_upward (row ∷ rows) = joined (men_upward rows) (if_size 8 (row_squares row))

-- the squares of rows, if there are exactly n rows
unfoldable pub men_of_rows : ℕ → List (List ℕ) → Option (List (Option Man))
men_of_rows n rows = if length rows == n then men_upward rows else None

-- what stands on the 64 squares, from a1 to h8: eight rows, from the eighth rank to the first
abbrev pub placement_of : List ℕ → Option (List (Option Man))
placement_of bytes = men_of_rows 8 (rows bytes)
