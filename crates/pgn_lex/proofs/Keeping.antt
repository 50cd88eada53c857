-- What is kept of a value, and where it ends.
use Rattle.std.proofs.Common.{◌≡◌, ℕ, ◌+◌, ◌<◌, ◌≤◌, Bool, true, false, not, if◌then◌else◌, ◌||◌, ◌==◌, List, [], ◌∷◌, ◌++◌, Option, Some, None, nat_lt, length, take, drop, get_or, refl, sym, ap, ◌∙◌, arith, add-one, drop-cons, append_assoc, length-append, subst, ◌⊎◌}
use Rattle.std.proofs.lemmas.List.{take_all, take-append-le, drop_all, length-take}
use Rattle.std.proofs.lemmas.Bool.Decides.{nat_tests}
use Rattle.cha_list.specs.declared.classes.Class.TheVariants.{InLine}
use Rattle.cha_list.specs.Bytes.{in_class}
use Rattle.pgn_lex.specs.Tags.{Read, onto, value_after}
use Rattle.pgn_lex.specs.Values.{Keeps, onto_all}

-- the front is no longer than what is kept of it, where that is short
short : (kept front : List ℕ) → kept ≡ take 4096 front → length kept < 4096 → length front < 4096
short kept front e small = omega (arith, ap length e, length-take 4096 front)

pub below : (n : ℕ) → n ≤ 4096 → nat_lt 4096 n ≡ false
below n small = grind (arith, nat_tests)

above : (n : ℕ) → 4096 < n → nat_lt 4096 n ≡ true
above n large = grind (arith, nat_tests)

pub keeps_more : (kept kept' front : List ℕ) (more : Bool) (b : ℕ) → Keeps kept more front → length kept < 4096 → kept' ≡ kept ++ b ∷ [] → Keeps kept' more (front ++ b ∷ [])
keeps_more kept kept' front more b h small e =
    let few = short kept front h.first_bytes small in
    let all : take 4096 front ≡ front = take_all 4096 front (omega arith) in
    let n = length-append front (b ∷ []) in
    record {
      first_bytes = e ∙ ap (λ x. x ++ b ∷ []) (h.first_bytes ∙ all) ∙ sym (take_all 4096 (front ++ b ∷ []) (omega arith));
      has_more = h.has_more ∙ below (length front) (omega arith) ∙ sym (below (length (front ++ b ∷ [])) (omega arith));
    }

pub keeps_no_more : (kept front : List ℕ) (more : Bool) (b : ℕ) → Keeps kept more front → 4096 ≤ length kept → Keeps kept true (front ++ b ∷ [])
keeps_no_more kept front more b h large =
    let many : 4096 ≤ length front = omega (arith, ap length h.first_bytes, length-take 4096 front) in
    let n = length-append front (b ∷ []) in
    record {
      first_bytes = h.first_bytes ∙ sym (take-append-le 4096 front (b ∷ []) many);
      has_more = sym (above (length (front ++ b ∷ [])) (omega arith));
    }

onto_both : (a b : List ℕ) (o : Option Read) → onto_all a (onto_all b o) ≡ onto_all (a ++ b) o
onto_both a b None = refl
onto_both a b (Some r) = ap (λ x. Some (record { text = x; rest = r.rest })) (sym (append_assoc a b r.text))

-- one byte of a value
pub goes_on : (bytes front added : List ℕ) (at : ℕ) (escaped after : Bool) → at < length bytes
    → ((bs : List ℕ) → value_after escaped (get_or bytes at 0 ∷ bs) ≡ onto_all added (value_after after bs))
    → value_after false bytes ≡ onto_all front (value_after escaped (drop at bytes))
    → value_after false bytes ≡ onto_all (front ++ added) (value_after after (drop (at + 1) bytes))
goes_on bytes front added at escaped after inside step before =
    let cut : drop at bytes ≡ get_or bytes at 0 ∷ drop (at + 1) bytes = rw add-one (drop-cons bytes at 0 inside) in
    before ∙ ap (λ x. onto_all front (value_after escaped x)) cut ∙ ap (onto_all front) (step (drop (at + 1) bytes)) ∙ onto_both front added (value_after after (drop (at + 1) bytes))

none_after : (front : List ℕ) (escaped : Bool) → onto_all front (value_after escaped []) ≡ None
unfolding value_after
none_after front true = refl
none_after front false = refl

pub ends : (bytes front : List ℕ) (at : ℕ) (escaped : Bool) → length bytes ≤ at
    → value_after false bytes ≡ onto_all front (value_after escaped (drop at bytes)) → value_after false bytes ≡ None
unfolding value_after
ends bytes front at escaped large before = before ∙ ap (λ x. onto_all front (value_after escaped x)) (drop_all at bytes large) ∙ none_after front escaped

-- what each kind of byte does
pub onto_one : (b : ℕ) (o : Option Read) → onto b o ≡ onto_all (b ∷ []) o
onto_one b None = refl
onto_one b (Some r) = refl

pub onto_two : (a b : ℕ) (o : Option Read) → onto a (onto b o) ≡ onto_all (a ∷ b ∷ []) o
onto_two a b None = refl
onto_two a b (Some r) = refl

chosen : {X : Type 0} (a : Bool) (x y : X) → a ≡ true → (if a then x else y) ≡ x
chosen true x y e = refl
chosen false x y e = cc

other : {X : Type 0} (a : Bool) (x y : X) → a ≡ false → (if a then x else y) ≡ y
other true x y e = cc
other false x y e = refl

pub step_escaped : (escaped : Bool) (b : ℕ) (bs : List ℕ) → escaped ≡ true → ((b == 34) || (b == 92)) ≡ true → value_after escaped (b ∷ bs) ≡ onto_all (b ∷ []) (value_after false bs)
unfolding value_after
step_escaped false b bs e f = cc
step_escaped true b bs e f = chosen ((b == 34) || (b == 92)) _ _ f ∙ onto_one b (value_after false bs)

pub step_backslash : (escaped : Bool) (b : ℕ) (bs : List ℕ) → escaped ≡ true → ((b == 34) || (b == 92)) ≡ false → in_class InLine b ≡ true → value_after escaped (b ∷ bs) ≡ onto_all (92 ∷ b ∷ []) (value_after false bs)
unfolding value_after
step_backslash false b bs e f g = cc
step_backslash true b bs e f g = other ((b == 34) || (b == 92)) _ _ f ∙ other (not (in_class InLine b)) _ _ (ap not g) ∙ onto_two 92 b (value_after false bs)

pub step_plain : (escaped : Bool) (b : ℕ) (bs : List ℕ) → escaped ≡ false → (b == 34) ≡ false → in_class InLine b ≡ true → (b == 92) ≡ false → value_after escaped (b ∷ bs) ≡ onto_all (b ∷ []) (value_after false bs)
unfolding value_after
step_plain true b bs e f g h = cc
step_plain false b bs e f g h = other (b == 34) _ _ f ∙ other (not (in_class InLine b)) _ _ (ap not g) ∙ other (b == 92) _ _ h ∙ onto_one b (value_after false bs)

pub keeps_twice : (kept : List ℕ) (more : Bool) (front : List ℕ) (a b : ℕ) → Keeps kept more (front ++ a ∷ [] ++ b ∷ []) → Keeps kept more (front ++ a ∷ b ∷ [])
keeps_twice kept more front a b h = subst (Keeps kept more) (append_assoc front (a ∷ []) (b ∷ [])) h

-- the same from what the code has tested
pub quote_or_slash : (b : ℕ) → ((b ≡ 34) ⊎ ((b ≡ 34 → ⊥) × (b ≡ 92))) → ((b == 34) || (b == 92)) ≡ true
quote_or_slash b h = grind (arith, nat_tests)

pub neither : (b : ℕ) → (b ≡ 34 → ⊥) → (b ≡ 92 → ⊥) → ((b == 34) || (b == 92)) ≡ false
neither b h k = grind (arith, nat_tests)

pub differs : (b n : ℕ) → (b ≡ n → ⊥) → (b == n) ≡ false
differs b n h = grind (arith, nat_tests)
