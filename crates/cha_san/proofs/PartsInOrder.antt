-- A word that is read from its end, as its parts in order.
use Rattle.std.proofs.Common.{◌≡◌, ℕ, suc, ◌+◌, ◌-◌, ◌*◌, ◌<◌, ◌≤◌, ◌⊎◌, inl, inr, Bool, true, false, if◌then◌else◌, List, [], ◌∷◌, ◌++◌, length, take, drop, get_or, Option, Some, None, refl, sym, ap, subst, ◌∙◌, arith, append_assoc, append-nil, drop-cons, drop_of_length-le, take-append-drop}
use Rattle.std.specs.Option.{option_and_then}
use Rattle.std.specs.Prelude.{is_some}
use Rattle.std.proofs.lemmas.Option.{slice_get_within, get_or_from_slice_get}
use Rattle.std.proofs.lemmas.Bool.{eqb-true}
use Rattle.std.proofs.lemmas.Bool.Decides.{nat_tests}
use Rattle.cha_board.specs.declared.men.Kind.{Kind}
use Rattle.cha_board.specs.Letters.{square_text}
use Rattle.cha_board.specs.Squares.{file_of, rank_of}
use Rattle.cha_san.specs.declared.forms.Parts.{Parts}
use Rattle.cha_san.specs.Backwards.{last, front, before, is_byte, without}
use Rattle.cha_san.specs.Forms.{promotion_named, file_named, rank_named, promotion_at, file_at, rank_at, unpromoted, square_of, square_at, kind_at, parts_if, parts}
use Rattle.cha_san.specs.InOrder.{IsNamed, IsPromotion, IsInOrder}

-- a word is its front and its last byte
peel : (word : List ℕ) (b : ℕ) → last word ≡ Some b → word ≡ front word ++ b ∷ []
unfolding last front
peel word b e =
    let n = length word - 1 in
    let small : n < length word = slice_get_within word n b e in
    let got : get_or word n b ≡ b = get_or_from_slice_get word n b b e in
    let past : length word ≤ suc n = omega (arith, small) in
    let end : drop (suc n) word ≡ [] = drop_of_length-le word past in
    sym (take-append-drop n word)
    ∙ ap (λ x. take n word ++ x) (drop-cons word n b small ∙ ap (λ y. y ∷ drop (suc n) word) got ∙ ap (λ ys. b ∷ ys) end)

-- what is named at the end of a word, and the byte that names it
named_at : {X : Type 0} (named : ℕ → Option X) (word : List ℕ) (x : X) (o : Option ℕ) → o ≡ last word → option_and_then named o ≡ Some x → (b : ℕ) × (named b ≡ Some x) × (word ≡ front word ++ b ∷ [])
named_at named word x None is e = cc
named_at named word x (Some b) is e = (b, e, peel word b (sym is))

-- a part that may be left out
part_at : (named : ℕ → Option ℕ) (word : List ℕ) (o : Option ℕ) → o ≡ option_and_then named (last word) → (text : List ℕ) × (word ≡ before (is_some o) word ++ text) × IsNamed named o text
unfolding before
part_at named word None e = ([], sym (append-nil word), refl)
part_at named word (Some n) e =
    let found = named_at named word n (last word) refl (sym e) in
    (found.0 ∷ [], found.2, (found.0, found.1, refl))

-- a byte that may be left out
byte_at : (b : ℕ) (word : List ℕ) (o : Option ℕ) (v : Bool) → o ≡ last word → v ≡ is_byte b o → (text : List ℕ) × (word ≡ before v word ++ text) × ((text ≡ []) ⊎ (text ≡ b ∷ []))
unfolding before
byte_at b word o false is e = ([], sym (append-nil word), inl refl)
byte_at b word None true is e = cc
byte_at b word (Some c) true is e =
    let same : c ≡ b = eqb-true c b (sym e) in
    (b ∷ [], peel word b (sym is ∙ ap Some same), inr refl)

-- a promotion
promotion_from : (word : List ℕ) (o : Option Kind) → o ≡ promotion_at word → (text : List ℕ) × (word ≡ (if is_some o then without 61 (front word) else word) ++ text) × IsPromotion o text
unfolding promotion_at without
promotion_from word None e = ([], sym (append-nil word), refl)
promotion_from word (Some kind) e =
    let found = named_at promotion_named word kind (last word) refl (sym e) in
    let b = found.0 in
    let sign = byte_at 61 (front word) (last (front word)) (is_byte 61 (last (front word))) refl refl in
    let whole = found.2 ∙ ap (λ x. x ++ b ∷ []) sign.1 ∙ append_assoc (before (is_byte 61 (last (front word))) (front word)) sign.0 (b ∷ []) in
    elim sign.2 [
      | inl none ↦ (sign.0 ++ b ∷ [], whole, (b, found.1, inl (ap (λ x. x ++ b ∷ []) none)))
      | inr one ↦ (sign.0 ++ b ∷ [], whole, (b, found.1, inr (ap (λ x. x ++ b ∷ []) one)))
    ]

-- the bytes that name a file and a rank
file_byte : (b f : ℕ) → file_named b ≡ Some f → (f < 8) × (b ≡ f + 97)
unfolding file_named
file_byte b f e = grind (arith, nat_tests)

rank_byte : (b r : ℕ) → rank_named b ≡ Some r → (r < 8) × (b ≡ r + 49)
unfolding rank_named
rank_byte b r e = grind (arith, nat_tests)

-- the text of the square of a file and a rank
text_is : (f r to a b : ℕ) → f < 8 → r < 8 → to ≡ f + 8 * r → a ≡ f + 97 → b ≡ r + 49 → a ∷ b ∷ [] ≡ square_text to
unfolding square_text
text_is f r to a b small small' is first second =
    let file : file_of to ≡ f = omega (arith, is, small) in
    let rank : rank_of to ≡ r = omega (arith, is, small) in
    rw (file, rank, first, second) refl

square_from : (word : List ℕ) (f r : Option ℕ) (to : ℕ) → f ≡ file_at (front word) → r ≡ rank_at word → square_of f r ≡ Some to → (to < 64) × (word ≡ front (front word) ++ square_text to)
unfolding file_at rank_at
square_from word (Some f) (Some r) to is is' e =
    let first = named_at file_named (front word) f (last (front word)) refl (sym is) in
    let second = named_at rank_named word r (last word) refl (sym is') in
    let file = file_byte first.0 f first.1 in
    let rank = rank_byte second.0 r second.1 in
    let there : to ≡ f + 8 * r = cc in
    let text = text_is f r to first.0 second.0 file.0 rank.0 there file.1 rank.1 in (
      omega (arith, there, file.0, rank.0),
      second.2 ∙ ap (λ x. x ++ second.0 ∷ []) first.2 ∙ append_assoc (front (front word)) (first.0 ∷ []) (second.0 ∷ []) ∙ ap (λ x. front (front word) ++ x) text,
    )
square_from word None r to is is' e = cc
square_from word (Some f) None to is is' e = cc

-- what the parts are where there are parts
record PartsAre (kind : Option Kind) (file rank to : Option ℕ) (promotion : Option Kind) (p : Parts) : Type 0 where
  kind_is : kind ≡ Some p.kind
  file_is : file ≡ p.file
  rank_is : rank ≡ p.rank
  to_is : to ≡ Some p.to
  promotion_is : promotion ≡ p.promotion

parts_are : (kind : Option Kind) (file rank to : Option ℕ) (promotion : Option Kind) (p : Parts) → parts_if kind file rank to promotion ≡ Some p → PartsAre kind file rank to promotion p
parts_are None file rank to promotion p e = cc
parts_are (Some k) file rank None promotion p e = cc
parts_are (Some k) file rank (Some to) promotion p e =
    let same : record { kind = k; file = file; rank = rank; to = to; promotion = promotion } ≡ p = cc in
    record {
      kind_is = ap (λ q. Some q.kind) same;
      file_is = ap (λ q. q.file) same;
      rank_is = ap (λ q. q.rank) same;
      to_is = ap (λ q. Some q.to) same;
      promotion_is = ap (λ q. q.promotion) same;
    }

-- what is read is in order
pub in_order : (word : List ℕ) (p : Parts) → parts word ≡ Some p → IsInOrder word p
unfolding parts unpromoted without square_at file_at rank_at
in_order word p e =
    let to_target = unpromoted word in
    let body = front (front to_target) in
    let to_rank = without 120 body in
    let to_file = before (is_some (rank_at to_rank)) to_rank in
    let to_letter = before (is_some (file_at to_file)) to_file in
    let are = parts_are (kind_at to_letter) (file_at to_file) (rank_at to_rank) (square_at to_target) (promotion_at word) p e in
    let last_part = promotion_from word (promotion_at word) refl in
    let square = square_from to_target (file_at (front to_target)) (rank_at to_target) p.to refl refl are.to_is in
    let sign = byte_at 120 body (last body) (is_byte 120 (last body)) refl refl in
    let rank_part = part_at rank_named to_rank (rank_at to_rank) refl in
    let file_part = part_at file_named to_file (file_at to_file) refl in
    record {
      letter = to_letter;
      file = file_part.0;
      rank = rank_part.0;
      capture = sign.0;
      promotion = last_part.0;
      in_order =
          last_part.1
          ∙ ap (λ w. w ++ last_part.0) (square.1 ∙ ap (λ w. w ++ square_text p.to) (sign.1 ∙ ap (λ w. w ++ sign.0) (rank_part.1 ∙ ap (λ w. w ++ rank_part.0) file_part.1)));
      names_kind = are.kind_is;
      names_file = subst (λ o. IsNamed file_named o file_part.0) are.file_is file_part.2;
      names_rank = subst (λ o. IsNamed rank_named o rank_part.0) are.rank_is rank_part.2;
      may_capture = sign.2;
      on_board = square.0;
      names_promotion = subst (λ o. IsPromotion o last_part.0) are.promotion_is last_part.2;
    }
