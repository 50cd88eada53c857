-- A legal move as a word (PGN standard, 8.2.3).
use Rattle.std.specs.Prelude.{ℕ, ◌+◌, ◌==◌, Bool, true, false, not, ◌&&◌, ◌||◌, if◌then◌else◌, List, [], ◌∷◌, ◌++◌, length, filter, codes, Option, None, Some}
use Rattle.cha_board.specs.declared.men.Kind.{Kind}
use Rattle.cha_board.specs.declared.men.Kind.TheVariants.{Pawn}
use Rattle.cha_board.specs.declared.men.Man.{Man}
use Rattle.cha_board.specs.Men.{same_kind}
use Rattle.cha_board.specs.Squares.{file_of, rank_of}
use Rattle.cha_board.specs.Board.{Board, man_at, is_empty, in_check}
use Rattle.cha_board.specs.Letters.{kind_letter, square_text}
use Rattle.cha_moves.specs.Step.{Move}
use Rattle.cha_moves.specs.Moves.{after, legal}
use Rattle.cha_moves.specs.MateLines.{is_mated}
use Rattle.cha_san.specs.declared.forms.Form.TheVariants.{Plain}
use Rattle.cha_san.specs.declared.forms.Parts.{Parts}
use Rattle.cha_san.specs.Fitting.{is_castling, fits}

-- the letter of a kind of man; a pawn has none (8.2.3.2)
abbrev pub kind_text : Kind → List ℕ
kind_text Pawn = []
kind_text kind = kind_letter kind ∷ []

-- what a pawn becomes, behind an equals sign (8.2.3.3)
abbrev pub promotion_text : Option Kind → List ℕ
promotion_text None = []
promotion_text (Some kind) = 61 ∷ kind_letter kind ∷ []

-- the king's word for castling: the file that it enters tells the side (8.2.3.3)
unfoldable pub castling_text : ℕ → List ℕ
castling_text to = if file_of to == 6 then codes "O-O" else codes "O-O-O"

-- the letter of a file or the digit of a rank that is named, by the letter or the digit of the first
abbrev pub named_text : ℕ → Option ℕ → List ℕ
named_text first None = []
named_text first (Some n) = (n + first) ∷ []

-- an x, where a man is taken
abbrev pub capture_text : Bool → List ℕ
capture_text true = codes "x"
capture_text false = []

-- the parts of a word in their order
abbrev pub parts_text : Parts → Bool → List ℕ
parts_text p takes = kind_text p.kind ++ named_text 97 p.file ++ named_text 49 p.rank ++ capture_text takes ++ square_text p.to ++ promotion_text p.promotion

-- a man is taken: one stands where the move goes, or a pawn leaves its file
unfoldable pub takes_man : Board → Kind → Move → Bool
takes_man q kind m = not (is_empty q.men m.to) || (same_kind kind Pawn && not (file_of m.from == file_of m.to))

-- a number is named, or not
abbrev pub named_if : Bool → ℕ → Option ℕ
named_if true n = Some n
named_if false n = None

-- the parts of a word that names the file and the rank that the man leaves, or not
abbrev pub parts_of : Kind → Move → Bool → Bool → Parts
parts_of kind m file rank = record { kind = kind; file = named_if file (file_of m.from); rank = named_if rank (rank_of m.from); to = m.to; promotion = m.promotion }

-- one legal move alone fits the parts
unfoldable pub is_alone : Board → Parts → Bool
is_alone q p = length (filter (fits q (Plain p)) (legal q)) == 1

-- The first of no mark, the file, the rank and both with which one legal move alone fits (8.2.3.4). A pawn that takes names its file
-- (8.2.3.3), and no pawn names its rank alone.
unfoldable pub marked : Board → Kind → Move → Parts
marked q kind m =
    if not (same_kind kind Pawn && takes_man q kind m) && is_alone q (parts_of kind m false false) then parts_of kind m false false
    else (if is_alone q (parts_of kind m true false) then parts_of kind m true false
    else (if not (same_kind kind Pawn) && is_alone q (parts_of kind m false true) then parts_of kind m false true
    else parts_of kind m true true))

-- the word of a man that does not castle, without a sign
abbrev pub man_word : Board → Move → Option Man → List ℕ
man_word q m None = []
man_word q m (Some man) = parts_text (marked q man.kind m) (takes_man q man.kind m)

-- a number sign where the side to move is checkmated, else a plus sign where it is in check (8.2.3.5)
unfoldable pub sign_text : Board → List ℕ
sign_text q = if is_mated q q.side then codes "#" else (if in_check q.men q.side then codes "+" else [])

-- a move as a word
unfoldable pub san_text : Board → Move → List ℕ
san_text q m = (if is_castling q m then castling_text m.to else man_word q m (man_at q.men m.from)) ++ sign_text (after q m)
