-- Parts in order are read from the end as they are.
use Rattle.std.proofs.Common.{◌≡◌, ℕ, ◌+◌, ◌-◌, ◌*◌, ◌<◌, ◌≤◌, ◌⊎◌, inl, inr, false, List, [], ◌∷◌, ◌++◌, length, Option, Some, None, refl, sym, ap, subst, ◌∙◌, arith, append_assoc, append-nil, length-append}
use Rattle.std.specs.Option.{option_and_then}
use Rattle.std.specs.Prelude.{is_some}
use Rattle.std.proofs.lemmas.Option.{slice_get-get_or}
use Rattle.std.proofs.Math.Seq.{take-append_seam, get_or-append_seam}
use Rattle.std.proofs.lemmas.Bool.Decides.{nat_tests}
use Rattle.cha_board.specs.declared.men.Kind.{Kind}
use Rattle.cha_board.specs.Letters.{square_text, kind_of}
use Rattle.cha_board.specs.Squares.{file_of, rank_of}
use Rattle.cha_san.specs.declared.forms.Parts.{Parts}
use Rattle.cha_san.specs.Backwards.{last, front, before, is_byte, without}
use Rattle.cha_san.specs.Forms.{promotion_named, file_named, rank_named, promotion_at, file_at, rank_at, unpromoted, square_at, kind_at, parts_if, parts}
use Rattle.cha_san.specs.InOrder.{IsNamed, IsPromotion, IsInOrder}

-- the last byte of a word and its front, where a byte was put behind it
last_of : (u : List ℕ) (b : ℕ) → last (u ++ b ∷ []) ≡ Some b
unfolding last
last_of u b =
    let whole : length (u ++ b ∷ []) ≡ length u + 1 = length-append u (b ∷ []) in
    let n : length (u ++ b ∷ []) - 1 ≡ length u = omega (arith, whole) in
    let small : length u < length (u ++ b ∷ []) = omega (arith, whole) in
    rw n (slice_get-get_or (u ++ b ∷ []) (length u) b small ∙ ap Some (get_or-append_seam u b [] b))

front_of : (u : List ℕ) (b : ℕ) → front (u ++ b ∷ []) ≡ u
unfolding front
front_of u b =
    let whole : length (u ++ b ∷ []) ≡ length u + 1 = length-append u (b ∷ []) in
    let n : length (u ++ b ∷ []) - 1 ≡ length u = omega (arith, whole) in
    rw n (take-append_seam u (b ∷ []))

-- the last byte of a word, if there is one, is from low to high
IsWithin : ℕ → ℕ → List ℕ → Type 0
IsWithin low high u = (b : ℕ) → last u ≡ Some b → (low ≤ b) × (b ≤ high)

letter_byte : (b : ℕ) (k : Kind) → kind_of b ≡ Some k → (66 ≤ b) × (b ≤ 82)
unfolding kind_of
letter_byte b k e = grind (arith, nat_tests)

letter_within : (letter : List ℕ) (k : Kind) → kind_at letter ≡ Some k → IsWithin 66 82 letter
unfolding IsWithin kind_at last
letter_within [] k e b is = cc
letter_within (c ∷ []) k e b is = (let same : c ≡ b = cc in subst (λ x. (66 ≤ x) × (x ≤ 82)) same (letter_byte c k e))
letter_within (c ∷ d ∷ rest) k e b is = cc

part_within : (named : ℕ → Option ℕ) (low high : ℕ) (u text : List ℕ) (o : Option ℕ) → IsWithin low high u → IsNamed named o text → ((b n : ℕ) → named b ≡ Some n → (low ≤ b) × (b ≤ high)) → IsWithin low high (u ++ text)
unfolding IsWithin
part_within named low high u text None inside e bound b is = inside b (sym (ap last (ap (λ t. u ++ t) e ∙ append-nil u)) ∙ is)
part_within named low high u text (Some n) inside e bound b is =
    let there : last (u ++ text) ≡ Some e.0 = ap (λ t. last (u ++ t)) e.2 ∙ last_of u e.0 in
    let same : e.0 ≡ b = (let f : Some e.0 ≡ Some b = sym there ∙ is in cc) in
    bound b n (subst (λ x. named x ≡ Some n) same e.1)

file_bound : (b n : ℕ) → file_named b ≡ Some n → (66 ≤ b) × (b ≤ 104)
unfolding file_named
file_bound b n e = grind (arith, nat_tests)

rank_bound : (b n : ℕ) → rank_named b ≡ Some n → (49 ≤ b) × (b ≤ 104)
unfolding rank_named
rank_bound b n e = grind (arith, nat_tests)

wider : (low high low' high' : ℕ) (u : List ℕ) → IsWithin low high u → low' ≤ low → high ≤ high' → IsWithin low' high' u
unfolding IsWithin
wider low high low' high' u inside down up b is = (let both = inside b is in (omega (arith, both.0), omega (arith, both.1)))

-- what such a byte does not name
no_file_byte : (b : ℕ) → b ≤ 82 → file_named b ≡ None
unfolding file_named
no_file_byte b small = grind (arith, nat_tests)

no_rank_byte : (b : ℕ) → 66 ≤ b → rank_named b ≡ None
unfolding rank_named
no_rank_byte b big = grind (arith, nat_tests)

no_promotion_byte : (b : ℕ) → b ≤ 56 → promotion_named b ≡ None
unfolding promotion_named
no_promotion_byte b small = grind (arith, nat_tests)

no_file : (u : List ℕ) (o : Option ℕ) → last u ≡ o → IsWithin 66 82 u → option_and_then file_named o ≡ None
unfolding IsWithin
no_file u None is inside = refl
no_file u (Some b) is inside = no_file_byte b (inside b is).1

no_rank : (u : List ℕ) (o : Option ℕ) → last u ≡ o → IsWithin 66 104 u → option_and_then rank_named o ≡ None
unfolding IsWithin
no_rank u None is inside = refl
no_rank u (Some b) is inside = no_rank_byte b (inside b is).0

no_capture : (u : List ℕ) (o : Option ℕ) → last u ≡ o → IsWithin 49 104 u → is_byte 120 o ≡ false
unfolding IsWithin
no_capture u None is inside = refl
no_capture u (Some b) is inside = (let few = (inside b is).1 in grind (arith, nat_tests))

-- a part that may be left out is read
part_read : (named : ℕ → Option ℕ) (u text : List ℕ) (o : Option ℕ) → IsNamed named o text → option_and_then named (last u) ≡ None → (option_and_then named (last (u ++ text)) ≡ o) × (before (is_some o) (u ++ text) ≡ u)
unfolding before
part_read named u text None e none =
    let same : u ++ text ≡ u = ap (λ t. u ++ t) e ∙ append-nil u in
    (ap (λ w. option_and_then named (last w)) same ∙ none, same)
part_read named u text (Some n) e none =
    let same : u ++ text ≡ u ++ e.0 ∷ [] = ap (λ t. u ++ t) e.2 in
    (ap (λ w. option_and_then named (last w)) same ∙ ap (option_and_then named) (last_of u e.0) ∙ e.1, ap front same ∙ front_of u e.0)

capture_read : (u text : List ℕ) → (text ≡ []) ⊎ (text ≡ 120 ∷ []) → is_byte 120 (last u) ≡ false → without 120 (u ++ text) ≡ u
unfolding without before
capture_read u text (inl e) none =
    let same : u ++ text ≡ u = ap (λ t. u ++ t) e ∙ append-nil u in
    rw (same, none) refl
capture_read u text (inr e) none =
    let same : u ++ text ≡ u ++ 120 ∷ [] = ap (λ t. u ++ t) e in
    rw (same, last_of u 120) (front_of u 120)

promotion_read : (u text : List ℕ) (o : Option Kind) → IsPromotion o text → promotion_at u ≡ None → is_byte 61 (last u) ≡ false → (promotion_at (u ++ text) ≡ o) × (unpromoted (u ++ text) ≡ u)
unfolding promotion_at unpromoted without before
promotion_read u text None e none unsigned =
    let same : u ++ text ≡ u = ap (λ t. u ++ t) e ∙ append-nil u in
    (ap (λ w. option_and_then promotion_named (last w)) same ∙ none, rw (same, none) refl)
promotion_read u text (Some k) (b, named, inl e) none unsigned =
    let same : u ++ text ≡ u ++ b ∷ [] = ap (λ t. u ++ t) e in
    let read : option_and_then promotion_named (last (u ++ text)) ≡ Some k = ap (λ w. option_and_then promotion_named (last w)) same ∙ ap (option_and_then promotion_named) (last_of u b) ∙ named in
    (read, rw (read, same, front_of u b, unsigned) refl)
promotion_read u text (Some k) (b, named, inr e) none unsigned =
    let same : u ++ text ≡ (u ++ 61 ∷ []) ++ b ∷ [] = ap (λ t. u ++ t) e ∙ sym (append_assoc u (61 ∷ []) (b ∷ [])) in
    let read : option_and_then promotion_named (last (u ++ text)) ≡ Some k = ap (λ w. option_and_then promotion_named (last w)) same ∙ ap (option_and_then promotion_named) (last_of (u ++ 61 ∷ []) b) ∙ named in
    (read, rw (read, same, front_of (u ++ 61 ∷ []) b, last_of u 61) (front_of u 61))

-- the text of a square is read
file_again : (to : ℕ) → to < 64 → file_named (file_of to + 97) ≡ Some (file_of to)
unfolding file_named
file_again to small = grind (arith, nat_tests)

rank_again : (to : ℕ) → to < 64 → rank_named (rank_of to + 49) ≡ Some (rank_of to)
unfolding rank_named
rank_again to small = grind (arith, nat_tests)

record SquareRead (u : List ℕ) (to : ℕ) : Type 0 where
  square : square_at (u ++ square_text to) ≡ Some to
  rest : front (front (u ++ square_text to)) ≡ u
  no_promotion : promotion_at (u ++ square_text to) ≡ None
  no_sign : is_byte 61 (last (u ++ square_text to)) ≡ false

square_read : (u : List ℕ) (to : ℕ) → to < 64 → SquareRead u to
unfolding square_text square_at file_at rank_at promotion_at
square_read u to small =
    let f = file_of to + 97 in
    let r = rank_of to + 49 in
    let whole : u ++ f ∷ r ∷ [] ≡ (u ++ f ∷ []) ++ r ∷ [] = sym (append_assoc u (f ∷ []) (r ∷ [])) in
    let end : last (u ++ f ∷ r ∷ []) ≡ Some r = ap last whole ∙ last_of (u ++ f ∷ []) r in
    let begin : front (u ++ f ∷ r ∷ []) ≡ u ++ f ∷ [] = ap front whole ∙ front_of (u ++ f ∷ []) r in
    let few : r ≤ 56 = omega (arith, small) in
    let some : 49 ≤ r = omega arith in
    let to_is : file_of to + 8 * rank_of to ≡ to = omega arith in
    record {
      square = rw (begin, end, last_of u f, file_again to small, rank_again to small) (ap Some to_is);
      rest = ap front begin ∙ front_of u f;
      no_promotion = ap (option_and_then promotion_named) end ∙ no_promotion_byte r few;
      no_sign = ap (is_byte 61) end ∙ (grind (arith, nat_tests));
    }

-- the parts of a word that is read step by step
steps : (word a b c d : List ℕ) → unpromoted word ≡ a → without 120 (front (front a)) ≡ b → before (is_some (rank_at b)) b ≡ c → before (is_some (file_at c)) c ≡ d → parts word ≡ parts_if (kind_at d) (file_at c) (rank_at b) (square_at a) (promotion_at word)
unfolding parts
steps word a b c d e f g h = rw (e, f, g, h) refl

pub read_in_order : (word : List ℕ) (p : Parts) → IsInOrder word p → parts word ≡ Some p
unfolding file_at rank_at
read_in_order word p h =
    let d = h.letter in
    let c = d ++ h.file in
    let b = c ++ h.rank in
    let u = b ++ h.capture in
    let a = u ++ square_text p.to in
    let at_d = letter_within d p.kind h.names_kind in
    let at_c = part_within file_named 66 104 d h.file p.file (wider 66 82 66 104 d at_d (omega arith) (omega arith)) h.names_file file_bound in
    let at_b = part_within rank_named 49 104 c h.rank p.rank (wider 66 104 49 104 c at_c (omega arith) (omega arith)) h.names_rank rank_bound in
    let file = part_read file_named d h.file p.file h.names_file (no_file d (last d) refl at_d) in
    let rank = part_read rank_named c h.rank p.rank h.names_rank (no_rank c (last c) refl at_c) in
    let capture = capture_read b h.capture h.may_capture (no_capture b (last b) refl at_b) in
    let square = square_read u p.to h.on_board in
    let promotion = promotion_read a h.promotion p.promotion h.names_promotion square.no_promotion square.no_sign in
    let whole : unpromoted word ≡ a = ap unpromoted h.in_order ∙ promotion.1 in
    let body : without 120 (front (front a)) ≡ b = ap (without 120) square.rest ∙ capture in
    let to_file : before (is_some (rank_at b)) b ≡ c = ap (λ o. before (is_some o) b) rank.0 ∙ rank.1 in
    let to_letter : before (is_some (file_at c)) c ≡ d = ap (λ o. before (is_some o) c) file.0 ∙ file.1 in
    let named : promotion_at word ≡ p.promotion = ap promotion_at h.in_order ∙ promotion.0 in
    steps word a b c d whole body to_file to_letter ∙ rw (h.names_kind, file.0, rank.0, square.square, named) refl
