-- The text of a position, as it is written (PGN standard, 16.1).
use Rattle.std.specs.Prelude.{ℕ, zero, suc, ◌+◌, ◌*◌, ◌==◌, Bool, if◌then◌else◌, List, [], ◌∷◌, ◌++◌, take, drop, Option, Some, None}
use Rattle.cha_board.specs.declared.men.Color.{Color}
use Rattle.cha_board.specs.declared.men.Color.TheVariants.{White, Black}
use Rattle.cha_board.specs.declared.men.Man.{Man}
use Rattle.cha_board.specs.declared.position.Rights.{Rights}
use Rattle.cha_board.specs.Board.{Board}
use Rattle.cha_board.specs.Letters.{letter_of, square_text}

-- the digit of a run of empty squares, if it has any
abbrev pub run_text : ℕ → List ℕ
run_text n = if n == 0 then [] else (n + 48) ∷ []

-- the text of the rest of a row, before which so many empty squares stand
unfoldable pub row_text_after : ℕ → List (Option Man) → List ℕ
row_text_after n [] = run_text n
row_text_after n (None ∷ men) = row_text_after (n + 1) men
row_text_after n (Some man ∷ men) = run_text n ++ letter_of man ∷ row_text_after 0 men

-- the squares of a rank, from 0 to 7
abbrev pub rank_men : List (Option Man) → ℕ → List (Option Man)
rank_men men n = take 8 (drop (8 * n) men)

-- a text behind a slash, unless it has no ranks
abbrev pub slash_before : ℕ → List ℕ → List ℕ
slash_before zero text = text
slash_before (suc n) text = 47 ∷ text

-- the lowest n ranks, the highest of them first
unfoldable pub ranks_text : ℕ → List (Option Man) → List ℕ
ranks_text zero men = []
ranks_text (suc n) men = row_text_after 0 (rank_men men n) ++ slash_before n (ranks_text n men)

-- w or b
abbrev pub side_text : Color → List ℕ
side_text White = 119 ∷ []
side_text Black = 98 ∷ []

-- a letter, if it is wanted
abbrev pub letter_if : Bool → ℕ → List ℕ
letter_if wanted letter = if wanted then letter ∷ [] else []

-- a text, or - if it is empty
abbrev pub dash_if_empty : List ℕ → List ℕ
dash_if_empty [] = 45 ∷ []
dash_if_empty (b ∷ bs) = b ∷ bs

-- the letters of the rights in the order KQkq, or -
unfoldable pub rights_text : Rights → List ℕ
rights_text r =
    dash_if_empty (letter_if r.white_king 75 ++ letter_if r.white_queen 81 ++ letter_if r.black_king 107 ++ letter_if r.black_queen 113)

-- a square by the letter of its file and the digit of its rank, or -
unfoldable pub target_text : Option ℕ → List ℕ
target_text None = 45 ∷ []
target_text (Some s) = square_text s

-- the text of a position: four fields with a space between them (that the clocks are left out: this project)
unfoldable pub fen_text : Board → List ℕ
fen_text q = ranks_text 8 q.men ++ (32 ∷ side_text q.side) ++ (32 ∷ rights_text q.rights) ++ (32 ∷ target_text q.target)
