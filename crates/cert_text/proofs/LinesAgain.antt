-- Each line that is written is read again.
use Rattle.std.proofs.Common.{◌≡◌, ◌≢◌, ℕ, zero, suc, ◌+◌, ◌-◌, ◌*◌, ◌/◌, ◌%◌, ◌^◌, ◌<◌, ◌≤◌, ◌==◌, nat_lt, nat_le, Bool, true, false, not, ◌&&◌, if◌then◌else◌, List, [], ◌∷◌, ◌++◌, length, drop, Option, Some, None, decimal, refl, ap, ◌∙◌, arith}
use Rattle.std.proofs.Math.Nat.{pow-succ'}
use Rattle.std.proofs.Math.Seq.{drop-append-add}
use Rattle.std.specs.List.{list_all}
use Rattle.std.specs.Int.{bit_at}
use Rattle.std.proofs.lemmas.Bool.{and_parts, and_from, eq-eqb}
use Rattle.std.proofs.lemmas.Bool.Decides.{Decides-eqb, nat_tests}
use Rattle.std.proofs.lemmas.Fmt.{decimal_nonempty, length-decimal-le}
use Rattle.std.proofs.lemmas.List.{length-append}
use Rattle.std.proofs.lemmas.Slice.Eq.{slice_eq-Decides}
use Rattle.cha_list.specs.Bytes.{is_from}
use Rattle.cha_board.specs.declared.men.Color.{Color}
use Rattle.cha_board.specs.declared.men.Color.TheVariants.{White, Black}
use Rattle.cha_board.specs.declared.men.Kind.{Kind}
use Rattle.cha_board.specs.declared.men.Kind.TheVariants.{Pawn, Knight, Bishop, Rook, Queen, King}
use Rattle.cha_board.specs.Board.{Board, IsValid}
use Rattle.cha_board.specs.SquareSets.{has_square, set_of_bits, bits_of_set}
use Rattle.cha_board.proofs.SetLaws.{length-set_of, has-set_of, same_squares, bit_at-bits_of_set, test_of_one_if}
use Rattle.cha_board.specs.Letters.{kind_of, square_text, square_of}
use Rattle.cha_fen.specs.Fen.{fen}
use Rattle.cha_fen.specs.Written.{fen_text}
use Rattle.cha_board.specs.Letters.{kind_letter}
use Rattle.cha_fen.proofs.WrittenRead.{written_is_read}
use Rattle.mob_sets.specs.Rows.{Row}
use Rattle.cert_text.specs.declared.labels.Label.{Label}
use Rattle.cert_text.specs.Labels.{label_word}
use Rattle.cert_text.specs.Digits.{hex_digit, hex_digits, value_of}
use Rattle.cert_text.specs.Spelled.{winner_line, count_line, loose_line, row_line, position_line, lines_text}
use Rattle.cert_text.specs.TextLines.{lines_of, tail_of}
use Rattle.cert_text.specs.Texts.{is_text, kept, fixed_of, winner_of, small_count, count_of, loose_of, follows, row_of, position_if, position_of}
use Rattle.cert_text.proofs.Numbers.{decimal_read, hex_read}
use Rattle.cert_text.proofs.Plain.{plain, ArePlain}

pub not_zero : (n : ℕ) → n ≢ 0 → not (n == 0) ≡ true
not_zero n other = grind (arith, nat_tests)

pub less_test : (a b : ℕ) → a < b → nat_lt a b ≡ true
less_test a b low = grind (arith, nat_tests)

-- lines that are written are cut again
other_byte : (b : ℕ) → nat_lt 10 b ≡ true → (b == 10) ≡ false
other_byte b t = grind (arith, nat_tests)

line_again : (line rest : List ℕ) → list_all plain line ≡ true → lines_of (line ++ 10 ∷ rest) ≡ line ∷ lines_of rest
unfolding lines_of
line_again [] rest t = refl
line_again (b ∷ bs) rest t =
    let both = and_parts (nat_lt 10 b) (list_all plain bs) t in
    rw (other_byte b both.0, line_again bs rest both.1) refl

tail_again : (line rest : List ℕ) → list_all plain line ≡ true → tail_of (line ++ 10 ∷ rest) ≡ tail_of rest
unfolding tail_of
tail_again [] rest t = refl
tail_again (b ∷ bs) rest t =
    let both = and_parts (nat_lt 10 b) (list_all plain bs) t in
    rw (other_byte b both.0, line_again bs rest both.1) (tail_again bs rest both.1)

pub lines_again : (lines : List (List ℕ)) → ArePlain lines → lines_of (lines_text lines) ≡ lines
unfolding lines_text lines_of
lines_again [] p = refl
lines_again (line ∷ lines) p = line_again line (lines_text lines) p.0 ∙ ap (λ ls. line ∷ ls) (lines_again lines p.1)

pub no_tail : (lines : List (List ℕ)) → ArePlain lines → tail_of (lines_text lines) ≡ []
unfolding lines_text tail_of
no_tail [] p = refl
no_tail (line ∷ lines) p = tail_again line (lines_text lines) p.0 ∙ no_tail lines p.1

-- each line is read again
pub text_same : (a : List ℕ) → is_text a a ≡ true
text_same a = (slice_eq-Decides Decides-eqb a a (is_text a a) refl).1 refl

pub kept_again : {A : Type 0} (text : A → List ℕ) (o : Option A) (x : A) → o ≡ Some x → kept text (text x) o ≡ Some x
kept_again text None x e = cc
kept_again text (Some a) x e = (let same : a ≡ x = cc in rw same (rw (text_same (text x)) refl))

pub fixed_again : (text : List ℕ) → fixed_of text text ≡ Some true
unfolding fixed_of
fixed_again text = rw (text_same text) refl

pub winner_again : (w : Color) → winner_of (winner_line w) ≡ Some w
unfolding winner_of winner_line
winner_again White = refl
winner_again Black = refl

small_again : (n : ℕ) → 0 < n → n < 4294967296 → small_count n ≡ Some n
small_again n low high =
    let a : nat_le 1 n ≡ true = grind (arith, nat_tests) in
    let b : nat_lt n 4294967296 ≡ true = grind (arith, nat_tests) in
    rw (a, b) refl

count_size : (d : ℕ) → 0 < d → d ≤ 10 → is_from 7 16 (6 + d) ≡ true
count_size d low high = and_from (nat_le 7 (6 + d)) (nat_le (6 + d) 16) (grind (arith, nat_tests)) (grind (arith, nat_tests))

pub count_again : (n : ℕ) → 0 < n → n < 4294967296 → count_of (count_line n) ≡ Some n
unfolding count_of count_line
count_again n low high =
    let some = decimal_nonempty n (omega arith) in
    let few = length-decimal-le 10 n (omega arith) (omega arith) (omega arith) in
    let size : length (count_line n) ≡ 6 + length (decimal n) = omega arith in
    let fits : is_from 7 16 (length (count_line n)) ≡ true = ap (is_from 7 16) size ∙ count_size (length (decimal n)) some few in
    let value : small_count (value_of 10 (decimal n)) ≡ Some n = ap small_count (decimal_read n (omega arith)) ∙ small_again n low high in
    rw fits (kept_again count_line (small_count (value_of 10 (decimal n))) n value)

pub set_again : (set : List Bool) → length set ≡ 64 → set_of_bits (bits_of_set set) ≡ set
set_again set width =
    let p = λ (s : ℕ). bit_at (bits_of_set set) s == 1 in
    same_squares (set_of_bits (bits_of_set set)) set (length-set_of p) width (λ s small.
    has-set_of p s small ∙ ap (λ x. x == 1) (bit_at-bits_of_set set s) ∙ test_of_one_if (has_square set s))

bits_more : (b : Bool) (n k : ℕ) → n < 2 ^ k → (if b then 1 else 0) + 2 * n < 2 ^ suc k
bits_more true n k small = (let power : 2 ^ suc k ≡ 2 * 2 ^ k = pow-succ' 2 k in omega (arith, power, small))
bits_more false n k small = (let power : 2 ^ suc k ≡ 2 * 2 ^ k = pow-succ' 2 k in omega (arith, power, small))

bits_small : (set : List Bool) → bits_of_set set < 2 ^ length set
unfolding bits_of_set
bits_small [] = omega arith
bits_small (b ∷ bs) = bits_more b (bits_of_set bs) (length bs) (bits_small bs)

hex_size : (k n : ℕ) → length (hex_digits k n) ≡ k
unfolding hex_digits
hex_size zero n = refl
hex_size (suc k) n = omega (arith, hex_size k (n / 16), length-append (hex_digits k (n / 16)) (hex_digit (n % 16) ∷ []))

set_value : (set : List Bool) → length set ≡ 64 → set_of_bits (value_of 16 (hex_digits 16 (bits_of_set set))) ≡ set
set_value set width =
    let small : bits_of_set set < 16 ^ 16 = (let s = bits_small set in let w = ap (λ n. 2 ^ n) width in omega (arith, s, w)) in
    ap set_of_bits (hex_read 16 (bits_of_set set) small) ∙ set_again set width

pub loose_again : (set : List Bool) → length set ≡ 64 → loose_of (loose_line set) ≡ Some set
unfolding loose_of loose_line
loose_again set width =
    let size : length (loose_line set) ≡ 22 = (let h = hex_size 16 (bits_of_set set) in omega (arith, h)) in
    let fits : (length (loose_line set) == 22) ≡ true = eq-eqb (length (loose_line set)) 22 size in
    rw fits (kept_again loose_line (Some (set_of_bits (value_of 16 (hex_digits 16 (bits_of_set set))))) set (ap Some (set_value set width)))

kind_again : (k : Kind) → kind_of (kind_letter k) ≡ Some k
unfolding kind_of
kind_again Pawn = refl
kind_again Knight = refl
kind_again Bishop = refl
kind_again Rook = refl
kind_again Queen = refl
kind_again King = refl

square_again : (s : ℕ) → s < 64 → square_of (s % 8 + 97) (s / 8 + 49) ≡ Some s
square_again s small =
    let tests : (is_from 97 104 (s % 8 + 97) && is_from 49 56 (s / 8 + 49)) ≡ true =
    and_from (is_from 97 104 (s % 8 + 97)) (is_from 49 56 (s / 8 + 49))
    (and_from (nat_le 97 (s % 8 + 97)) (nat_le (s % 8 + 97) 104) (grind (arith, nat_tests)) (grind (arith, nat_tests)))
    (and_from (nat_le 49 (s / 8 + 49)) (nat_le (s / 8 + 49) 56) (grind (arith, nat_tests)) (grind (arith, nat_tests))) in
    let back : (s % 8 + 97 - 97) + 8 * (s / 8 + 49 - 49) ≡ s = omega arith in
    rw (tests, back) refl

pub row_again : (rows : List Row) (row : Row) → follows rows row ≡ true → row.origin < 64 → length row.squares ≡ 64 → row_of rows (row_line row) ≡ Some row
unfolding row_of row_line square_text
row_again rows row behind small width =
    let size : length (row_line row) ≡ 27 = (let h = hex_size 16 (bits_of_set row.squares) in omega (arith, h)) in
    let fits : (length (row_line row) == 27) ≡ true = eq-eqb (length (row_line row)) 27 size in
    let squares = set_value row.squares width in
    rw (fits, square_again row.origin small, kind_again row.kind, squares, text_same (row_line row), behind) refl

pub no_more : (a b : ℕ) → a ≤ b → nat_lt b a ≡ false
no_more a b low = grind (arith, nat_tests)

pub position_again : (label : Label) (q : Board) → IsValid q → position_of label (position_line label q) ≡ Some q
unfolding position_of position_line
position_again label q valid =
    let word = label_word label in
    let line = position_line label q in
    let long : nat_lt (length line) (length word + 1) ≡ false = no_more (length word + 1) (length line) (omega (arith, length-append word (32 ∷ fen_text q))) in
    let fenned : position_if (fen (drop (length word + 1) line)) ≡ Some q =
    ap (λ t. position_if (fen t)) (drop-append-add word (32 ∷ fen_text q) 1) ∙ ap position_if (written_is_read q valid) in
    rw long (kept_again (position_line label) (position_if (fen (drop (length word + 1) line))) q fenned)
