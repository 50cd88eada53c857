-- Letters of men, and texts of squares (PGN standard, 8.2.3 and 16.1.3).
use Rattle.std.specs.Prelude.{ℕ, ◌+◌, ◌-◌, ◌*◌, ◌==◌, ◌&&◌, if◌then◌else◌, List, [], ◌∷◌, Option, Some, None, nat_le}
use Rattle.cha_list.specs.Bytes.{is_from}
use Rattle.cha_board.specs.declared.men.Color.{Color}
use Rattle.cha_board.specs.declared.men.Color.TheVariants.{White, Black}
use Rattle.cha_board.specs.declared.men.Kind.{Kind}
use Rattle.cha_board.specs.declared.men.Kind.TheVariants.{Pawn, Knight, Bishop, Rook, Queen, King}
use Rattle.cha_board.specs.declared.men.Man.{Man}
use Rattle.cha_board.specs.Squares.{file_of, rank_of}

-- the capital letter of a kind: P N B R Q K
abbrev pub kind_letter : Kind → ℕ
kind_letter Pawn = 80
kind_letter Knight = 78
kind_letter Bishop = 66
kind_letter Rook = 82
kind_letter Queen = 81
kind_letter King = 75

-- the kind of a capital letter: P N B R Q K
unfoldable pub kind_of : ℕ → Option Kind
kind_of b =
    if b == 80 then Some Pawn
    else (if b == 78 then Some Knight
    else (if b == 66 then Some Bishop
    else (if b == 82 then Some Rook
    else (if b == 81 then Some Queen
    else (if b == 75 then Some King else None)))))

-- how far the letters of a side are behind the capital ones
abbrev pub case_of : Color → ℕ
case_of White = 0
case_of Black = 32

-- the letter of a man: White's a capital one, Black's a small one (PGN standard, 16.1.3.1)
unfoldable pub letter_of : Man → ℕ
letter_of man = kind_letter man.kind + case_of man.color

-- the letter of what stands on a square, and a dot where nothing does
abbrev pub letter_or_dot : Option Man → ℕ
letter_or_dot None = 46
letter_or_dot (Some man) = letter_of man

-- the man of a colour and a kind, if there is a kind
abbrev pub man_if : Color → Option Kind → Option Man
man_if color None = None
man_if color (Some kind) = Some (record { color = color; kind = kind })

-- the man of a letter: White's in upper case, Black's in lower case
unfoldable pub man_of : ℕ → Option Man
man_of b = if nat_le 97 b then man_if Black (kind_of (b - 32)) else man_if White (kind_of b)

-- the text of a square: its file's letter, a to h, and its rank's digit, 1 to 8 (PGN standard, 8.2.3.1)
unfoldable pub square_text : ℕ → List ℕ
square_text s = (file_of s + 97) ∷ (rank_of s + 49) ∷ []

-- the square of a file's letter and a rank's digit
abbrev pub square_of : ℕ → ℕ → Option ℕ
square_of file rank = if is_from 97 104 file && is_from 49 56 rank then Some ((file - 97) + 8 * (rank - 49)) else None
