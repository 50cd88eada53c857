-- What the word of a move says in its parts.
use Rattle.std.proofs.Common.{◌≡◌, ℕ, ◌+◌, ◌-◌, ◌<◌, ◌==◌, ◌⊎◌, inl, inr, true, false, List, [], ◌∷◌, ◌++◌, Option, Some, None, refl, sym, ap, subst, ◌∙◌, arith}
use Rattle.std.proofs.lemmas.Bool.Decides.{nat_tests}
use Rattle.cha_list.specs.Bytes.{is_from}
use Rattle.cha_board.specs.declared.men.Kind.{Kind}
use Rattle.cha_board.specs.declared.men.Kind.TheVariants.{Pawn, Knight, Bishop, Rook, Queen}
use Rattle.cha_board.specs.Squares.{file_of, rank_of}
use Rattle.cha_board.specs.Letters.{kind_of, square_text}
use Rattle.cha_san.specs.declared.forms.Form.{Form}
use Rattle.cha_san.specs.declared.forms.Form.TheVariants.{Plain}
use Rattle.cha_san.specs.declared.forms.Parts.{Parts}
use Rattle.cha_san.specs.Forms.{promotion_named, file_named, rank_named, kind_at, parts, is_sign, stem, is_short, is_long, unsigned_form, form_of}
use Rattle.cha_san.specs.InOrder.{IsPromotion}
use Rattle.cha_san.proofs.ReadInOrder.{read_in_order}
use Rattle.cha_san.specs.Writing.{promotion_text}

-- the bytes of a square
record IsFile (b n : ℕ) : Type 0 where
  named : file_named b ≡ Some n
  no_castling : (b == 79) ≡ false
  no_zero : (b == 48) ≡ false

record IsRank (b n : ℕ) : Type 0 where
  named : rank_named b ≡ Some n
  no_sign : is_sign b ≡ false

small_file : (n : ℕ) → n < 8 → IsFile (n + 97) n
unfolding file_named
small_file n small =
    let inside : is_from 97 104 (n + 97) ≡ true = grind (arith, nat_tests) in
    let same : n + 97 - 97 ≡ n = omega arith in
    record { named = rw (inside, same) refl; no_castling = grind (arith, nat_tests); no_zero = grind (arith, nat_tests) }

small_rank : (n : ℕ) → n < 8 → IsRank (n + 49) n
unfolding rank_named is_sign
small_rank n small =
    let inside : is_from 49 56 (n + 49) ≡ true = grind (arith, nat_tests) in
    let same : n + 49 - 49 ≡ n = omega arith in
    let plus : (n + 49 == 43) ≡ false = grind (arith, nat_tests) in
    let number : (n + 49 == 35) ≡ false = grind (arith, nat_tests) in
    let good : (n + 49 == 33) ≡ false = grind (arith, nat_tests) in
    let bad : (n + 49 == 63) ≡ false = grind (arith, nat_tests) in
    record { named = rw (inside, same) refl; no_sign = rw (plus, number, good, bad) refl }

is_file : (s : ℕ) → IsFile (file_of s + 97) (file_of s)
is_file s =
    let small : file_of s < 8 = omega arith in
    small_file (file_of s) small

is_rank : (s : ℕ) → s < 64 → IsRank (rank_of s + 49) (rank_of s)
is_rank s inside =
    let small : rank_of s < 8 = omega (arith, inside) in
    small_rank (rank_of s) small

-- both squares, and what a pawn becomes
abbrev pub way_of : ℕ → ℕ → Option Kind → List ℕ
way_of s t p = (file_of s + 97) ∷ (rank_of s + 49) ∷ (file_of t + 97) ∷ (rank_of t + 49) ∷ promotion_text p

abbrev parts_of : Kind → ℕ → ℕ → Option Kind → Parts
parts_of kind s t promotion = record { kind = kind; file = Some (file_of s); rank = Some (rank_of s); to = t; promotion = promotion }

abbrev pub says_parts : Kind → ℕ → ℕ → Option Kind → Form
says_parts kind s t promotion = Plain (parts_of kind s t promotion)

-- a word whose parts stand in order
parts_are : (word letter text : List ℕ) (kind : Kind) (s t : ℕ) (p : Option Kind) → kind_at letter ≡ Some kind → s < 64 → t < 64 → IsPromotion p text
    → word ≡ letter ++ ((file_of s + 97) ∷ []) ++ ((rank_of s + 49) ∷ []) ++ [] ++ square_text t ++ text → parts word ≡ Some (parts_of kind s t p)
parts_are word letter text kind s t p named in_s in_t becomes order =
    read_in_order word (parts_of kind s t p) (record {
      letter = letter;
      file = (file_of s + 97) ∷ [];
      rank = (rank_of s + 49) ∷ [];
      capture = [];
      promotion = text;
      in_order = order;
      names_kind = named;
      names_file = (file_of s + 97, (is_file s).named, refl);
      names_rank = (rank_of s + 49, (is_rank s in_s).named, refl);
      may_capture = inl refl;
      on_board = in_t;
      names_promotion = becomes;
    })

-- a word that says parts is of this form
form_by : (word : List ℕ) (p : Parts) → stem word ≡ word → is_short word ≡ false → is_long word ≡ false → parts word ≡ Some p → form_of word ≡ Some (Plain p)
unfolding unsigned_form
form_by word p whole short long told = ap unsigned_form whole ∙ rw (short, long, told) refl

-- a pawn's word, without a promotion and with one
pawn_moves : (s t : ℕ) → s < 64 → t < 64 → form_of (way_of s t None) ≡ Some (says_parts Pawn s t None)
unfolding stem is_short is_long kind_at square_text
pawn_moves s t in_s in_t =
    let word = way_of s t None in
    let sign = (is_rank t in_t).no_sign in
    let one = (is_file s).no_castling in
    let nil = (is_file s).no_zero in
    form_by word (parts_of Pawn s t None) (rw sign refl) (rw (one, nil) refl) (rw (one, nil) refl) (parts_are word [] [] Pawn s t None refl in_s in_t refl refl)

pawn_promotes : (s t b : ℕ) (k : Kind) → s < 64 → t < 64 → promotion_named b ≡ Some k → is_sign b ≡ false
    → form_of ((file_of s + 97) ∷ (rank_of s + 49) ∷ (file_of t + 97) ∷ (rank_of t + 49) ∷ 61 ∷ b ∷ []) ≡ Some (says_parts Pawn s t (Some k))
unfolding stem is_short is_long kind_at square_text
pawn_promotes s t b k in_s in_t named sign =
    let text = 61 ∷ b ∷ [] in
    let word = (file_of s + 97) ∷ (rank_of s + 49) ∷ (file_of t + 97) ∷ (rank_of t + 49) ∷ text in
    let one = (is_file s).no_castling in
    let nil = (is_file s).no_zero in
    form_by word (parts_of Pawn s t (Some k)) (rw sign refl) (rw (one, nil) refl) (rw (one, nil) refl)
    (parts_are word [] text Pawn s t (Some k) refl in_s in_t (b, named, inr refl) refl)

pub pawn_says : (s t : ℕ) (p : Option Kind) → s < 64 → t < 64 → ((p ≡ None) ⊎ ((p ≡ Some Queen) ⊎ ((p ≡ Some Rook) ⊎ ((p ≡ Some Bishop) ⊎ (p ≡ Some Knight))))) → form_of (way_of s t p) ≡ Some (says_parts Pawn s t p)
unfolding promotion_named is_sign
pawn_says s t p in_s in_t h =
    let P : Option Kind → Type 0 = λ o. form_of (way_of s t o) ≡ Some (says_parts Pawn s t o) in
    elim h [
      | inl e ↦ subst P (sym e) (pawn_moves s t in_s in_t)
      | inr x ↦ elim x [
        | inl e ↦ subst P (sym e) (pawn_promotes s t 81 Queen in_s in_t refl refl)
        | inr y ↦ elim y [
          | inl e ↦ subst P (sym e) (pawn_promotes s t 82 Rook in_s in_t refl refl)
          | inr z ↦ elim z [
            | inl e ↦ subst P (sym e) (pawn_promotes s t 66 Bishop in_s in_t refl refl)
            | inr e ↦ subst P (sym e) (pawn_promotes s t 78 Knight in_s in_t refl refl)
          ]
        ]
      ]
    ]

-- the word of another man
pub man_says : (which : Kind) (l s t : ℕ) → kind_of l ≡ Some which → (l == 79) ≡ false → (l == 48) ≡ false → s < 64 → t < 64 → form_of (l ∷ way_of s t None) ≡ Some (says_parts which s t None)
unfolding stem is_short is_long kind_at square_text
man_says which l s t named one nil in_s in_t =
    let word = l ∷ way_of s t None in
    let sign = (is_rank t in_t).no_sign in
    form_by word (parts_of which s t None) (rw sign refl) (rw (one, nil) refl) (rw (one, nil) refl) (parts_are word (l ∷ []) [] which s t None named in_s in_t refl refl)
