-- Squares, their distances and lines, and what a man aims at (Laws of Chess, Articles 2.2 to 2.4 and 3.1 to 3.8).
use Rattle.std.specs.Prelude.{ℕ, ◌+◌, ◌-◌, ◌*◌, ◌/◌, ◌%◌, ◌==◌, max, Bool, not, ◌&&◌, ◌||◌, List, if◌then◌else◌, filter}
use Rattle.std.specs.List.{range_with_len}
use Rattle.std.specs.Int.{abs_diff}
use Rattle.cha_board.specs.declared.men.Color.{Color}
use Rattle.cha_board.specs.declared.men.Color.TheVariants.{White, Black}
use Rattle.cha_board.specs.declared.men.Kind.{Kind}
use Rattle.cha_board.specs.declared.men.Kind.TheVariants.{Pawn, Knight, Bishop, Rook, Queen, King}

-- A square is a number from a1 = 0 to h8 = 63: its file, from 0 to 7, plus eight times its rank, from 0 to 7.
abbrev pub file_of : ℕ → ℕ
file_of s = s % 8

abbrev pub rank_of : ℕ → ℕ
rank_of s = s / 8

-- a square is white or black, a1 is black, and squares side by side are of two colours (Laws of Chess, Article 2.1)
unfoldable pub color_of_square : ℕ → Color
color_of_square s = if (file_of s + rank_of s) % 2 == 0 then Black else White

-- all squares, in order
unfoldable pub squares : List ℕ
squares = range_with_len 0 64

-- how many files two squares are apart
unfoldable pub files_apart : ℕ → ℕ → ℕ
files_apart s t = abs_diff (file_of s) (file_of t)

-- how many ranks two squares are apart
unfoldable pub ranks_apart : ℕ → ℕ → ℕ
ranks_apart s t = abs_diff (rank_of s) (rank_of t)

-- how many steps of a king two squares are apart
unfoldable pub steps_apart : ℕ → ℕ → ℕ
steps_apart s t = max (files_apart s t) (ranks_apart s t)

-- two different squares of one file or one rank
unfoldable pub is_straight : ℕ → ℕ → Bool
is_straight s t = not (s == t) && ((files_apart s t == 0) || (ranks_apart s t == 0))

-- two different squares of one diagonal
unfoldable pub is_diagonal : ℕ → ℕ → Bool
is_diagonal s t = not (s == t) && (files_apart s t == ranks_apart s t)

-- two different squares of one line
unfoldable pub is_line : ℕ → ℕ → Bool
is_line s t = is_straight s t || is_diagonal s t

-- the last rank, as c sees it, on which its pawns are promoted
abbrev pub last_rank : Color → ℕ
last_rank White = 7
last_rank Black = 0

-- the square one rank ahead of s, as c sees it
abbrev pub ahead_of : Color → ℕ → ℕ
ahead_of White s = s + 8
ahead_of Black s = s - 8

-- t is one rank ahead of s, as c sees it
unfoldable pub is_rank_ahead : Color → ℕ → ℕ → Bool
is_rank_ahead White s t = rank_of t == rank_of s + 1
is_rank_ahead Black s t = rank_of s == rank_of t + 1

-- a man of c and kind k on s aims at t, on an empty board; a pawn aims at the squares onto which it captures
unfoldable pub aims_at : Color → Kind → ℕ → ℕ → Bool
aims_at c Pawn s t = is_rank_ahead c s t && (files_apart s t == 1)
aims_at c Knight s t = files_apart s t * ranks_apart s t == 2
aims_at c Bishop s t = is_diagonal s t
aims_at c Rook s t = is_straight s t
aims_at c Queen s t = is_line s t
aims_at c King s t = steps_apart s t == 1

-- u lies in the smallest rectangle of squares that has s and t in it
unfoldable pub is_within : ℕ → ℕ → ℕ → Bool
is_within s t u =
    (files_apart s u + files_apart u t == files_apart s t) && (ranks_apart s u + ranks_apart u t == ranks_apart s t)

-- u lies strictly between s and t, all three on one line
unfoldable pub lies_between : ℕ → ℕ → ℕ → Bool
lies_between s t u =
    is_within s t u
    && ((is_straight s t && is_straight s u && is_straight u t) || (is_diagonal s t && is_diagonal s u && is_diagonal u t))

-- the squares strictly between two squares of one line; none between other squares
unfoldable pub between : ℕ → ℕ → List ℕ
between s t = filter (lies_between s t) squares
