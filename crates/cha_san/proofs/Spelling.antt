-- A word that is written from parts is read as these parts.
use Rattle.std.proofs.Common.{◌≡◌, ℕ, ◌+◌, ◌-◌, ◌<◌, ◌==◌, ◌⊎◌, inl, inr, Bool, true, false, cond, List, [], ◌∷◌, ◌++◌, length, take, Option, Some, None, codes, refl, sym, ap, ◌∙◌, subst, arith, append_assoc, append-nil, length-append, if◌then◌else◌}
use Rattle.std.specs.Prelude.{⊤, reverse}
use Rattle.std.specs.List.{suffix_len, prefix_len}
use Rattle.std.proofs.lemmas.List.{reverse-append}
use Rattle.std.proofs.Math.Seq.{take-append_seam, take-length}
use Rattle.std.proofs.lemmas.Bool.Decides.{nat_tests}
use Rattle.cha_list.specs.Bytes.{is_from}
use Rattle.cha_board.specs.declared.men.Kind.{Kind}
use Rattle.cha_board.specs.declared.men.Kind.TheVariants.{Pawn, Knight, Bishop, Rook, Queen, King}
use Rattle.cha_board.specs.Squares.{file_of, rank_of}
use Rattle.cha_board.specs.Letters.{kind_letter, kind_of, square_text}
use Rattle.cha_moves.specs.Moves.{is_promotion}
use Rattle.cha_san.specs.declared.forms.Form.{Form}
use Rattle.cha_san.specs.declared.forms.Form.TheVariants.{Short, Long, Plain}
use Rattle.cha_san.specs.declared.forms.Parts.{Parts}
use Rattle.cha_san.specs.Forms.{promotion_named, file_named, rank_named, kind_at, parts, is_sign, stem, is_short, is_long, unsigned_form, form_of}
use Rattle.cha_san.specs.InOrder.{IsNamed, IsPromotion}
use Rattle.cha_san.specs.Writing.{kind_text, promotion_text, named_text, capture_text, parts_text}
use Rattle.cha_san.proofs.ReadInOrder.{read_in_order}

-- signs behind a word
abbrev pub signs : Bool → Bool → List ℕ
signs mate check = if mate then codes "#" else (if check then codes "+" else [])

-- a word ends in a byte that is no sign
abbrev pub EndsPlain : List ℕ → Type 0
EndsPlain word = (front : List ℕ) × (b : ℕ) × (word ≡ front ++ b ∷ []) × (is_sign b ≡ false)

last_of : (front : List ℕ) (b : ℕ) → reverse (front ++ b ∷ []) ≡ b ∷ reverse front
last_of front b = reverse-append front (b ∷ [])

none_behind : (word : List ℕ) → EndsPlain word → suffix_len is_sign word ≡ 0
none_behind word h =
    let e : reverse word ≡ h.1 ∷ reverse h.0 = ap reverse h.2 ∙ last_of h.0 h.1 in
    ap (prefix_len is_sign) e ∙ ap (λ b. cond b (1 + prefix_len is_sign (reverse h.0)) 0) h.3

one_behind : (word : List ℕ) (s : ℕ) → is_sign s ≡ true → suffix_len is_sign word ≡ 0 → suffix_len is_sign (word ++ s ∷ []) ≡ 1
one_behind word s sign none =
    ap (prefix_len is_sign) (last_of word s) ∙ ap (λ b. cond b (1 + prefix_len is_sign (reverse word)) 0) sign ∙ ap (λ n. 1 + n) none

stem_alone : (word : List ℕ) → suffix_len is_sign word ≡ 0 → stem word ≡ word
unfolding stem
stem_alone word none =
    let whole : length word - suffix_len is_sign word ≡ length word = omega (arith, none) in
    ap (λ n. take n word) whole ∙ take-length word

stem_signed : (word : List ℕ) (s : ℕ) → is_sign s ≡ true → suffix_len is_sign word ≡ 0 → stem (word ++ s ∷ []) ≡ word
unfolding stem
stem_signed word s sign none =
    let one = one_behind word s sign none in
    let more = length-append word (s ∷ []) in
    let rest : length (word ++ s ∷ []) - suffix_len is_sign (word ++ s ∷ []) ≡ length word = omega (arith, one, more) in
    ap (λ n. take n (word ++ s ∷ [])) rest ∙ take-append_seam word (s ∷ [])

stem_of : (word : List ℕ) (mate check : Bool) → EndsPlain word → stem (word ++ signs mate check) ≡ word
unfolding is_sign
stem_of word true check h = stem_signed word 35 refl (none_behind word h)
stem_of word false true h = stem_signed word 43 refl (none_behind word h)
stem_of word false false h = ap stem (append-nil word) ∙ stem_alone word (none_behind word h)

pub signed : (word : List ℕ) (form : Form) (mate check : Bool) → EndsPlain word → unsigned_form word ≡ Some form → form_of (word ++ signs mate check) ≡ Some form
signed word form mate check h said = ap unsigned_form (stem_of word mate check h) ∙ said

-- castling
pub short_said : unsigned_form (codes "O-O") ≡ Some Short
unfolding unsigned_form is_short
short_said = refl

pub long_said : unsigned_form (codes "O-O-O") ≡ Some Long
unfolding unsigned_form is_short is_long
long_said = refl

pub short_ends : EndsPlain (codes "O-O")
unfolding is_sign
short_ends = (codes "O-", 79, refl, refl)

pub long_ends : EndsPlain (codes "O-O-O")
unfolding is_sign
long_ends = (codes "O-O-", 79, refl, refl)

-- the bytes of a square
record IsFile (b n : ℕ) : Type 0 where
  named : file_named b ≡ Some n
  no_castling : (b == 79) ≡ false
  no_zero : (b == 48) ≡ false

record IsRank (b n : ℕ) : Type 0 where
  named : rank_named b ≡ Some n
  no_sign : is_sign b ≡ false
  no_castling : (b == 79) ≡ false
  no_zero : (b == 48) ≡ false

small_file : (n : ℕ) → n < 8 → IsFile (n + 97) n
unfolding file_named
small_file n small =
    let inside : is_from 97 104 (n + 97) ≡ true = grind (arith, nat_tests) in
    let same : n + 97 - 97 ≡ n = omega arith in
    record { named = rw (inside, same) refl; no_castling = grind (arith, nat_tests); no_zero = grind (arith, nat_tests) }

small_rank : (n : ℕ) → n < 8 → IsRank (n + 49) n
unfolding rank_named is_sign
small_rank n small =
    let inside : is_from 49 56 (n + 49) ≡ true = grind (arith, nat_tests) in
    let same : n + 49 - 49 ≡ n = omega arith in
    let plus : (n + 49 == 43) ≡ false = grind (arith, nat_tests) in
    let number : (n + 49 == 35) ≡ false = grind (arith, nat_tests) in
    let good : (n + 49 == 33) ≡ false = grind (arith, nat_tests) in
    let bad : (n + 49 == 63) ≡ false = grind (arith, nat_tests) in
    record { named = rw (inside, same) refl; no_sign = rw (plus, number, good, bad) refl; no_castling = grind (arith, nat_tests); no_zero = grind (arith, nat_tests) }

-- a text begins with none of the two bytes of castling
abbrev Begins : List ℕ → Type 0
Begins [] = ⊤
Begins (b ∷ rest) = ((b == 79) ≡ false) × ((b == 48) ≡ false)

begins_with : (xs ys : List ℕ) → Begins xs → Begins ys → Begins (xs ++ ys)
begins_with [] ys a b = b
begins_with (x ∷ xs) ys a b = a

no_short : (word : List ℕ) → Begins word → is_short word ≡ false
unfolding is_short
no_short [] h = refl
no_short (b ∷ rest) h = rw (h.0, h.1) refl

no_long : (word : List ℕ) → Begins word → is_long word ≡ false
unfolding is_long
no_long [] h = refl
no_long (b ∷ rest) h = rw (h.0, h.1) refl

-- what may be named
abbrev pub IsBelow : Option ℕ → Type 0
IsBelow None = ⊤
IsBelow (Some n) = n < 8

kind_begins : (k : Kind) → Begins (kind_text k)
kind_begins Pawn = tt
kind_begins Knight = (refl, refl)
kind_begins Bishop = (refl, refl)
kind_begins Rook = (refl, refl)
kind_begins Queen = (refl, refl)
kind_begins King = (refl, refl)

file_begins : (o : Option ℕ) → IsBelow o → Begins (named_text 97 o)
file_begins None h = tt
file_begins (Some n) h = ((small_file n h).no_castling, (small_file n h).no_zero)

rank_begins : (o : Option ℕ) → IsBelow o → Begins (named_text 49 o)
rank_begins None h = tt
rank_begins (Some n) h = ((small_rank n h).no_castling, (small_rank n h).no_zero)

capture_begins : (takes : Bool) → Begins (capture_text takes)
capture_begins true = (refl, refl)
capture_begins false = tt

square_begins : (s : ℕ) → Begins (square_text s)
unfolding square_text
square_begins s = let small : file_of s < 8 = omega arith in ((small_file (file_of s) small).no_castling, (small_file (file_of s) small).no_zero)

promotion_begins : (o : Option Kind) → Begins (promotion_text o)
promotion_begins None = tt
promotion_begins (Some k) = (refl, refl)

parts_begin : (p : Parts) (takes : Bool) → IsBelow p.file → IsBelow p.rank → Begins (parts_text p takes)
parts_begin p takes file rank =
    let letter_file = begins_with (kind_text p.kind) (named_text 97 p.file) (kind_begins p.kind) (file_begins p.file file) in
    let to_rank = begins_with (kind_text p.kind ++ named_text 97 p.file) (named_text 49 p.rank) letter_file (rank_begins p.rank rank) in
    let to_capture = begins_with (kind_text p.kind ++ named_text 97 p.file ++ named_text 49 p.rank) (capture_text takes) to_rank (capture_begins takes) in
    let to_square = begins_with (kind_text p.kind ++ named_text 97 p.file ++ named_text 49 p.rank ++ capture_text takes) (square_text p.to) to_capture (square_begins p.to) in
    begins_with (kind_text p.kind ++ named_text 97 p.file ++ named_text 49 p.rank ++ capture_text takes ++ square_text p.to) (promotion_text p.promotion) to_square (promotion_begins p.promotion)

-- the parts of a word are read
kind_read : (k : Kind) → kind_at (kind_text k) ≡ Some k
unfolding kind_at kind_of
kind_read Pawn = refl
kind_read Knight = refl
kind_read Bishop = refl
kind_read Rook = refl
kind_read Queen = refl
kind_read King = refl

file_read : (o : Option ℕ) → IsBelow o → IsNamed file_named o (named_text 97 o)
file_read None h = refl
file_read (Some n) h = (n + 97, (small_file n h).named, refl)

rank_read : (o : Option ℕ) → IsBelow o → IsNamed rank_named o (named_text 49 o)
rank_read None h = refl
rank_read (Some n) h = (n + 49, (small_rank n h).named, refl)

capture_read : (takes : Bool) → (capture_text takes ≡ []) ⊎ (capture_text takes ≡ 120 ∷ [])
capture_read true = inr refl
capture_read false = inl refl

promotion_read : (o : Option Kind) → (is_promotion o ≡ true) ⊎ (o ≡ None) → IsPromotion o (promotion_text o)
unfolding promotion_named
promotion_read None h = refl
promotion_read (Some Queen) h = (81, refl, inr refl)
promotion_read (Some Rook) h = (82, refl, inr refl)
promotion_read (Some Bishop) h = (66, refl, inr refl)
promotion_read (Some Knight) h = (78, refl, inr refl)
promotion_read (Some Pawn) (inl e) = cc
promotion_read (Some Pawn) (inr e) = cc
promotion_read (Some King) (inl e) = cc
promotion_read (Some King) (inr e) = cc

parts_read : (p : Parts) (takes : Bool) → IsBelow p.file → IsBelow p.rank → p.to < 64 → (is_promotion p.promotion ≡ true) ⊎ (p.promotion ≡ None) → parts (parts_text p takes) ≡ Some p
parts_read p takes file rank to becomes = read_in_order (parts_text p takes) p (record {
  letter = kind_text p.kind;
  file = named_text 97 p.file;
  rank = named_text 49 p.rank;
  capture = capture_text takes;
  promotion = promotion_text p.promotion;
  in_order = refl;
  names_kind = kind_read p.kind;
  names_file = file_read p.file file;
  names_rank = rank_read p.rank rank;
  may_capture = capture_read takes;
  on_board = to;
  names_promotion = promotion_read p.promotion becomes;
})

pub parts_said : (p : Parts) (takes : Bool) → IsBelow p.file → IsBelow p.rank → p.to < 64 → (is_promotion p.promotion ≡ true) ⊎ (p.promotion ≡ None) → unsigned_form (parts_text p takes) ≡ Some (Plain p)
unfolding unsigned_form
parts_said p takes file rank to becomes =
    let begins = parts_begin p takes file rank in
    rw (no_short (parts_text p takes) begins, no_long (parts_text p takes) begins, parts_read p takes file rank to becomes) refl

-- the last byte of a word
behind : (xs ys : List ℕ) → EndsPlain ys → EndsPlain (xs ++ ys)
behind xs ys h = (xs ++ h.0, h.1, ap (λ zs. xs ++ zs) h.2 ∙ sym (append_assoc xs h.0 (h.1 ∷ [])), h.3)

square_ends : (s : ℕ) → s < 64 → EndsPlain (square_text s)
unfolding square_text
square_ends s inside = let small : rank_of s < 8 = omega (arith, inside) in ((file_of s + 97) ∷ [], rank_of s + 49, refl, (small_rank (rank_of s) small).no_sign)

promotion_ends : (k : Kind) → EndsPlain (61 ∷ kind_letter k ∷ [])
unfolding is_sign
promotion_ends Pawn = (61 ∷ [], 80, refl, refl)
promotion_ends Knight = (61 ∷ [], 78, refl, refl)
promotion_ends Bishop = (61 ∷ [], 66, refl, refl)
promotion_ends Rook = (61 ∷ [], 82, refl, refl)
promotion_ends Queen = (61 ∷ [], 81, refl, refl)
promotion_ends King = (61 ∷ [], 75, refl, refl)

target_ends : (front : List ℕ) (s : ℕ) (o : Option Kind) → s < 64 → EndsPlain (front ++ square_text s ++ promotion_text o)
target_ends front s None inside = subst (λ word. EndsPlain word) (sym (append-nil (front ++ square_text s))) (behind front (square_text s) (square_ends s inside))
target_ends front s (Some k) inside = behind (front ++ square_text s) (61 ∷ kind_letter k ∷ []) (promotion_ends k)

pub parts_end : (p : Parts) (takes : Bool) → p.to < 64 → EndsPlain (parts_text p takes)
parts_end p takes to = target_ends (kind_text p.kind ++ named_text 97 p.file ++ named_text 49 p.rank ++ capture_text takes) p.to p.promotion to
