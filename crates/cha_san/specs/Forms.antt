-- What a move word in SAN says (PGN standard, 8.2.3).
use Rattle.std.specs.Prelude.{ℕ, ◌+◌, ◌-◌, ◌*◌, ◌==◌, Bool, ◌||◌, if◌then◌else◌, List, [], ◌∷◌, length, take, Option, Some, None, is_some, codes}
use Rattle.std.specs.List.{suffix_len}
use Rattle.std.specs.Option.{option_map, option_and_then}
use Rattle.std.specs.Str.{bytes_eq}
use Rattle.cha_list.specs.Bytes.{is_from}
use Rattle.cha_board.specs.declared.men.Kind.{Kind}
use Rattle.cha_board.specs.declared.men.Kind.TheVariants.{Pawn, Knight, Bishop, Rook, Queen}
use Rattle.cha_board.specs.Letters.{kind_of}
use Rattle.cha_san.specs.declared.forms.Form.{Form}
use Rattle.cha_san.specs.declared.forms.Form.TheVariants.{Short, Long, Plain}
use Rattle.cha_san.specs.declared.forms.Parts.{Parts}
use Rattle.cha_san.specs.Backwards.{last, front, before, without}

-- what a pawn becomes by its letter: Q, R, B or N (PGN standard, 8.2.3.3)
unfoldable pub promotion_named : ℕ → Option Kind
promotion_named b =
    if b == 81 then Some Queen
    else (if b == 82 then Some Rook
    else (if b == 66 then Some Bishop
    else (if b == 78 then Some Knight else None)))

-- a file by its letter, a to h, as a number from 0 (PGN standard, 8.2.3.1)
unfoldable pub file_named : ℕ → Option ℕ
file_named b = if is_from 97 104 b then Some (b - 97) else None

-- a rank by its digit, 1 to 8, as a number from 0 (PGN standard, 8.2.3.1)
unfoldable pub rank_named : ℕ → Option ℕ
rank_named b = if is_from 49 56 b then Some (b - 49) else None

-- the promotion, the file and the rank at the end of a word
unfoldable pub promotion_at : List ℕ → Option Kind
promotion_at word = option_and_then promotion_named (last word)

unfoldable pub file_at : List ℕ → Option ℕ
file_at word = option_and_then file_named (last word)

unfoldable pub rank_at : List ℕ → Option ℕ
rank_at word = option_and_then rank_named (last word)

-- what stands in front of a promotion and of the = that it may have
unfoldable pub unpromoted : List ℕ → List ℕ
unpromoted word = if is_some (promotion_at word) then without 61 (front word) else word

-- the square of a file and a rank
abbrev pub square_of : Option ℕ → Option ℕ → Option ℕ
square_of (Some file) (Some rank) = Some (file + 8 * rank)
square_of _ _ = None

-- the square at the end of a word: a file's letter and a rank's digit
unfoldable pub square_at : List ℕ → Option ℕ
square_at word = square_of (file_at (front word)) (rank_at word)

-- the kind of man that the front of a word names: no letter means a pawn (PGN standard, 8.2.3.2), and so does P
unfoldable pub kind_at : List ℕ → Option Kind
kind_at [] = Some Pawn
kind_at (b ∷ []) = kind_of b
kind_at _ = None

-- the parts, if there are a kind and a target
abbrev pub parts_if : Option Kind → Option ℕ → Option ℕ → Option ℕ → Option Kind → Option Parts
parts_if (Some kind) file rank (Some target) promotion = Some (record { kind = kind; file = file; rank = rank; to = target; promotion = promotion })
parts_if _ file rank _ promotion = None

-- A word in its parts, read from its end: the promotion, the target, an x, the rank, the file and the letter of the man. Only
-- the target has to be there (PGN standard, 8.2.3.1 to 8.2.3.4), and nothing may be left over (this project).
unfoldable pub parts : List ℕ → Option Parts
parts word =
    let to_target = unpromoted word in
    let to_rank = without 120 (front (front to_target)) in
    let to_file = before (is_some (rank_at to_rank)) to_rank in
    let to_letter = before (is_some (file_at to_file)) to_file in
    parts_if (kind_at to_letter) (file_at to_file) (rank_at to_rank) (square_at to_target) (promotion_at word)

-- a sign that may stand behind a move: the plus sign, the number sign, the exclamation mark or the question mark
unfoldable pub is_sign : ℕ → Bool
is_sign b = (b == 43) || (b == 35) || (b == 33) || (b == 63)

-- a word without the plus, number, exclamation and question marks at its end (PGN standard, 8.2.3.5 and 8.2.3.8),
-- which are not checked (this project)
unfoldable pub stem : List ℕ → List ℕ
stem word = take (length word - suffix_len is_sign word) word

-- castling on the king's side: O-O (PGN standard, 8.2.3.3), or 0-0 (this project)
unfoldable pub is_short : List ℕ → Bool
is_short word = bytes_eq word (codes "O-O") || bytes_eq word (codes "0-0")

-- castling on the queen's side: O-O-O (PGN standard, 8.2.3.3), or 0-0-0 (this project)
unfoldable pub is_long : List ℕ → Bool
is_long word = bytes_eq word (codes "O-O-O") || bytes_eq word (codes "0-0-0")

-- what a word without signs says
unfoldable pub unsigned_form : List ℕ → Option Form
unsigned_form word = if is_short word then Some Short else (if is_long word then Some Long else option_map Plain (parts word))

-- what a word says, or None, if it is not of the form
abbrev pub form_of : List ℕ → Option Form
form_of word = unsigned_form (stem word)
