-- The word of each move is one word, and tells no result.
use Rattle.std.proofs.Common.{◌≡◌, ℕ, ◌+◌, ◌<◌, ◌≤◌, ◌==◌, Bool, true, false, List, ◌∷◌, ◌++◌, Option, Some, None, length, refl, sym, subst, ◌∙◌, arith, append_assoc, if◌then◌else◌}
use Rattle.std.specs.Prelude.{codes}
use Rattle.std.specs.List.{list_all}
use Rattle.std.proofs.lemmas.Bool.{ne_eqb}
use Rattle.std.proofs.lemmas.Bool.Decides.{nat_tests}
use Rattle.cha_board.specs.declared.men.Kind.{Kind}
use Rattle.cha_board.specs.declared.men.Kind.TheVariants.{Pawn, Knight, Bishop, Rook, Queen, King}
use Rattle.cha_board.specs.declared.men.Man.{Man}
use Rattle.cha_board.specs.Squares.{file_of, rank_of}
use Rattle.cha_board.specs.Board.{Board, man_at}
use Rattle.cha_board.specs.Letters.{square_text}
use Rattle.cha_list.specs.declared.classes.Class.TheVariants.{Digit}
use Rattle.cha_list.specs.Bytes.{in_class, is_letter}
use Rattle.cha_moves.specs.Step.{Move}
use Rattle.cha_san.specs.Fitting.{is_castling}
use Rattle.pgn_lex.specs.declared.classes.PgnClass.TheVariants.{WordByte, Mark}
use Rattle.pgn_lex.specs.Classes.{in_pgn_class}
use Rattle.pgn_lex.specs.Pieces.{is_white, word_token, word_piece}
use Rattle.pgn_lex.specs.Tokens.{piece}
use Rattle.pgn_games.specs.Cutting.{mark_of}
use Rattle.random_games.specs.Words.{man_text, plain_text, move_word}
use Rattle.cha_san.specs.Writing.{kind_text, promotion_text, castling_text}
use Rattle.random_games.proofs.GameTokens.{IsMoveWord}
use Rattle.random_games.proofs.WordParts.{way_of}

-- a letter is none of these bytes
letter_range : (b : ℕ) → is_letter b ≡ true → (65 ≤ b) × (b ≤ 122) × ((b ≡ 91) → ⊥)
letter_range b h = grind (arith, nat_tests)

not_white : (b : ℕ) → 65 ≤ b → is_white b ≡ false
unfolding is_white
not_white b low = grind (arith, nat_tests)

not_digit : (b : ℕ) → 65 ≤ b → in_class Digit b ≡ false
unfolding in_class
not_digit b low = grind (arith, nat_tests)

not_mark : (b : ℕ) → 65 ≤ b → in_pgn_class Mark b ≡ false
unfolding in_pgn_class
not_mark b low = grind (arith, nat_tests)

letter_in_word : (b : ℕ) → is_letter b ≡ true → in_pgn_class WordByte b ≡ true
unfolding in_pgn_class
letter_in_word b h = rw h refl

by_first : (first : Bool) (b : ℕ) (bs : List ℕ) → (b == 37) ≡ false → is_white b ≡ false → (b == 59) ≡ false → (b == 123) ≡ false → (b == 91) ≡ false → (b == 40) ≡ false → (b == 41) ≡ false
    → (b == 42) ≡ false → (b == 36) ≡ false → in_pgn_class WordByte b ≡ true → piece first b bs ≡ word_piece b bs
unfolding piece
by_first true b bs escape white line comment tag enter leave star note word = rw (escape, white, line, comment, tag, enter, leave, star, note, word) refl
by_first false b bs escape white line comment tag enter leave star note word = rw (white, line, comment, tag, enter, leave, star, note, word) refl

letter_begins : (b : ℕ) → is_letter b ≡ true → (first : Bool) (bs : List ℕ) → piece first b bs ≡ word_piece b bs
letter_begins b h first bs =
    let range = letter_range b h in
    let low = range.0 in
    let high = range.1 in
    let escape : (b == 37) ≡ false = ne_eqb b 37 (λ e. absurd (omega (arith, e, low))) in
    let white = not_white b low in
    let line : (b == 59) ≡ false = ne_eqb b 59 (λ e. absurd (omega (arith, e, low))) in
    let comment : (b == 123) ≡ false = ne_eqb b 123 (λ e. absurd (omega (arith, e, high))) in
    let tag : (b == 91) ≡ false = ne_eqb b 91 range.2 in
    let enter : (b == 40) ≡ false = ne_eqb b 40 (λ e. absurd (omega (arith, e, low))) in
    let leave : (b == 41) ≡ false = ne_eqb b 41 (λ e. absurd (omega (arith, e, low))) in
    let star : (b == 42) ≡ false = ne_eqb b 42 (λ e. absurd (omega (arith, e, low))) in
    let note : (b == 36) ≡ false = ne_eqb b 36 (λ e. absurd (omega (arith, e, low))) in
    let word = letter_in_word b h in
    by_first first b bs escape white line comment tag enter leave star note word

pub letter_word : (b : ℕ) (bs : List ℕ) → is_letter b ≡ true → list_all (in_pgn_class WordByte) bs ≡ true → length (b ∷ bs) ≤ 255 → IsMoveWord (b ∷ bs)
unfolding word_token mark_of
letter_word b bs h run short =
    let low = (letter_range b h).0 in
    let digit = not_digit b low in
    let mark = not_mark b low in
    let one : (b == 49) ≡ false = ne_eqb b 49 (λ e. absurd (omega (arith, e, low))) in
    let nil : (b == 48) ≡ false = ne_eqb b 48 (λ e. absurd (omega (arith, e, low))) in
    record {
      spelled = record { byte = b; more = bs; is = refl; begins = letter_begins b h; run = run; told = rw (digit, mark) refl; short = short };
      no_mark = rw (one, nil) refl;
    }

small_file : (f : ℕ) → f < 8 → is_letter (f + 97) ≡ true
small_file f small = grind (arith, nat_tests)

small_rank : (r : ℕ) → r < 8 → in_pgn_class WordByte (r + 49) ≡ true
unfolding in_pgn_class
small_rank r small = grind (arith, nat_tests)

file_letter : (s : ℕ) → is_letter (file_of s + 97) ≡ true
file_letter s =
    let small : file_of s < 8 = omega arith in
    small_file (file_of s) small

rank_digit : (s : ℕ) → s < 64 → in_pgn_class WordByte (rank_of s + 49) ≡ true
rank_digit s inside =
    let small : rank_of s < 8 = omega (arith, inside) in
    small_rank (rank_of s) small

promotion_run : (p : Option Kind) → (list_all (in_pgn_class WordByte) (promotion_text p) ≡ true) × (length (promotion_text p) ≤ 2)
unfolding in_pgn_class
promotion_run None = (refl, omega arith)
promotion_run (Some Pawn) = (refl, omega arith)
promotion_run (Some Knight) = (refl, omega arith)
promotion_run (Some Bishop) = (refl, omega arith)
promotion_run (Some Rook) = (refl, omega arith)
promotion_run (Some Queen) = (refl, omega arith)
promotion_run (Some King) = (refl, omega arith)

way_run : (s t : ℕ) (p : Option Kind) → s < 64 → t < 64 → list_all (in_pgn_class WordByte) (way_of s t p) ≡ true
way_run s t p in_s in_t =
    let a = letter_in_word (file_of s + 97) (file_letter s) in
    let b = rank_digit s in_s in
    let c = letter_in_word (file_of t + 97) (file_letter t) in
    let d = rank_digit t in_t in
    let e = (promotion_run p).0 in
    rw (a, b, c, d, e) refl

way_word : (s t : ℕ) (p : Option Kind) → s < 64 → t < 64 → IsMoveWord (way_of s t p)
way_word s t p in_s in_t =
    let b = rank_digit s in_s in
    let c = letter_in_word (file_of t + 97) (file_letter t) in
    let d = rank_digit t in_t in
    let e = (promotion_run p).0 in
    let few = (promotion_run p).1 in
    letter_word (file_of s + 97) ((rank_of s + 49) ∷ (file_of t + 97) ∷ (rank_of t + 49) ∷ promotion_text p) (file_letter s) (rw (b, c, d, e) refl) (omega (arith, few))

led_word : (b s t : ℕ) (p : Option Kind) → is_letter b ≡ true → s < 64 → t < 64 → IsMoveWord (b ∷ way_of s t p)
led_word b s t p h in_s in_t =
    let few = (promotion_run p).1 in
    letter_word b (way_of s t p) h (way_run s t p in_s in_t) (omega (arith, few))

kind_word : (k : Kind) (s t : ℕ) (p : Option Kind) → s < 64 → t < 64 → IsMoveWord (kind_text k ++ way_of s t p)
kind_word Pawn s t p in_s in_t = way_word s t p in_s in_t
kind_word Knight s t p in_s in_t = led_word 78 s t p refl in_s in_t
kind_word Bishop s t p in_s in_t = led_word 66 s t p refl in_s in_t
kind_word Rook s t p in_s in_t = led_word 82 s t p refl in_s in_t
kind_word Queen s t p in_s in_t = led_word 81 s t p refl in_s in_t
kind_word King s t p in_s in_t = led_word 75 s t p refl in_s in_t

man_word : (o : Option Man) (s t : ℕ) (p : Option Kind) → s < 64 → t < 64 → IsMoveWord (man_text o ++ way_of s t p)
man_word None s t p in_s in_t = way_word s t p in_s in_t
man_word (Some man) s t p in_s in_t = kind_word man.kind s t p in_s in_t

plain_parts : (front : List ℕ) (s t : ℕ) (p : Option Kind) → front ++ square_text s ++ square_text t ++ promotion_text p ≡ front ++ way_of s t p
unfolding square_text
plain_parts front s t p =
    append_assoc (front ++ square_text s) (square_text t) (promotion_text p) ∙ append_assoc front (square_text s) (square_text t ++ promotion_text p)

-- a plain word in its parts
pub plain_is : (q : Board) (m : Move) → plain_text q m ≡ man_text (man_at q.men m.from) ++ way_of m.from m.to m.promotion
unfolding plain_text
plain_is q m = plain_parts (man_text (man_at q.men m.from)) m.from m.to m.promotion

castling_word : (by_six : Bool) → IsMoveWord (if by_six then codes "O-O" else codes "O-O-O")
unfolding in_pgn_class
castling_word true = letter_word 79 (codes "-O") refl refl (omega arith)
castling_word false = letter_word 79 (codes "-O-O") refl refl (omega arith)

by_castling : (q : Board) (m : Move) (castles : Bool) → m.from < 64 → m.to < 64 → IsMoveWord (if castles then castling_text m.to else plain_text q m)
unfolding castling_text
by_castling q m true from to = castling_word (file_of m.to == 6)
by_castling q m false from to =
    let P : List ℕ → Type 0 = λ w. IsMoveWord w in
    subst P (sym (plain_is q m)) (man_word (man_at q.men m.from) m.from m.to m.promotion from to)

pub is_move_word : (q : Board) (m : Move) → m.from < 64 → m.to < 64 → IsMoveWord (move_word q m)
unfolding move_word
is_move_word q m from to = by_castling q m (is_castling q m) from to
