-- Fields and rows, one at a time.
use Rattle.std.proofs.Common.{◌≡◌, ℕ, zero, suc, ◌+◌, ◌<◌, ◌≤◌, ◌==◌, Bool, true, false, not, if◌then◌else◌, List, [], ◌∷◌, length, take, drop, refl, sym, ap, ◌∙◌, arith, ◌-◌, length-drop}
use Rattle.std.proofs.lemmas.List.{take_all}
use Rattle.std.proofs.lemmas.Bool.{eqb-true}
use Rattle.std.proofs.lemmas.Bool.Decides.{nat_tests}
use Rattle.std.specs.List.{prefix_len}
use Rattle.cha_list.specs.declared.classes.Class.TheVariants.{Blank, NotBlank}
use Rattle.cha_list.specs.Bytes.{in_class}
use Rattle.cha_fen.specs.Fields.{fields_after}
use Rattle.cha_fen.specs.Placement.{in_row, rows, onto_first}

skipped : (n : ℕ) (bs : List ℕ) → fields_after n bs ≡ fields_after 0 (drop n bs)
unfolding fields_after
skipped zero bs = refl
skipped (suc n) [] = refl
skipped (suc n) (b ∷ bs) = skipped n bs

visible : (b : ℕ) (v : Bool) → in_class Blank b ≡ v → in_class NotBlank b ≡ not v
unfolding in_class
visible b v e = ap not e

field_step : (b : ℕ) (bs at : List ℕ) (k n : ℕ) (v : Bool) → in_class Blank b ≡ v → k ≡ (if v then 1 + prefix_len (in_class Blank) bs else 0) → at ≡ drop k (b ∷ bs) → n ≡ prefix_len (in_class NotBlank) at
    → (at ≡ drop (prefix_len (in_class Blank) bs) bs → fields_after 0 bs ≡ take n at ∷ fields_after 0 (drop n at))
    → (if v then fields_after 0 bs else ((b ∷ take (prefix_len (in_class NotBlank) bs) bs) ∷ fields_after (prefix_len (in_class NotBlank) bs) bs)) ≡ take n at ∷ fields_after 0 (drop n at)
field_step b bs at k n true v e f g ih =
    let e' : k ≡ suc (prefix_len (in_class Blank) bs) = omega arith in
    ih (rw e' at f)
field_step b bs at k n false v e f g ih =
    let f' : at ≡ b ∷ bs = rw e at f in
    let w : in_class NotBlank b ≡ true = visible b false v in
    let h : prefix_len (in_class NotBlank) (b ∷ bs) ≡ 1 + prefix_len (in_class NotBlank) bs = rw w refl in
    let g' : n ≡ suc (prefix_len (in_class NotBlank) bs) = g ∙ ap (prefix_len (in_class NotBlank)) f' ∙ h ∙ omega arith in
    rw (f', g') (ap (λ x. (b ∷ take (prefix_len (in_class NotBlank) bs) bs) ∷ x) (skipped (prefix_len (in_class NotBlank) bs) bs))

pub first_field : (bs at : List ℕ) (k n : ℕ) → k ≡ prefix_len (in_class Blank) bs → at ≡ drop k bs → n ≡ prefix_len (in_class NotBlank) at → 0 < length at
    → fields_after 0 bs ≡ take n at ∷ fields_after 0 (drop n at)
unfolding fields_after
first_field [] at k n e f g small =
    let f' : at ≡ [] = rw e at f in
    absurd (omega (arith, ap length f'))
first_field (b ∷ bs) at k n e f g small =
    field_step b bs at k n (in_class Blank b) refl e f g (λ f'. first_field bs at (prefix_len (in_class Blank) bs) n refl f' g small)

blank_step : (b : ℕ) (bs : List ℕ) (k : ℕ) (v : Bool) → k ≡ (if v then 1 + prefix_len (in_class Blank) bs else 0) → length (b ∷ bs) ≤ k
    → (length bs ≤ prefix_len (in_class Blank) bs → fields_after 0 bs ≡ [])
    → (if v then fields_after 0 bs else ((b ∷ take (prefix_len (in_class NotBlank) bs) bs) ∷ fields_after (prefix_len (in_class NotBlank) bs) bs)) ≡ []
blank_step b bs k true e small ih = ih (omega arith)
blank_step b bs k false e small ih = absurd (omega arith)

pub no_field : (bs : List ℕ) (k : ℕ) → k ≡ prefix_len (in_class Blank) bs → length bs ≤ k → fields_after 0 bs ≡ []
unfolding fields_after
no_field [] k e small = refl
no_field (b ∷ bs) k e small = blank_step b bs k (in_class Blank b) e small (λ small'. no_field bs (prefix_len (in_class Blank) bs) refl small')

last_step : (b : ℕ) (bs : List ℕ) (v : Bool) → (if not v then 1 + prefix_len in_row bs else 0) ≡ length (b ∷ bs)
    → (prefix_len in_row bs ≡ length bs → rows bs ≡ bs ∷ [])
    → (if v then [] ∷ rows bs else onto_first b (rows bs)) ≡ (b ∷ bs) ∷ []
last_step b bs true e ih = absurd (omega arith)
last_step b bs false e ih = rw (ih (omega arith)) refl

pub last_row : (bs : List ℕ) → prefix_len in_row bs ≡ length bs → rows bs ≡ bs ∷ []
unfolding rows
last_row [] e = refl
last_row (b ∷ bs) e = last_step b bs (b == 47) e (last_row bs)

first_step : (b : ℕ) (bs : List ℕ) (n : ℕ) (v : Bool) → n ≡ (if not v then 1 + prefix_len in_row bs else 0) → n < length (b ∷ bs)
    → ((m : ℕ) → m ≡ prefix_len in_row bs → m < length bs → rows bs ≡ take m bs ∷ rows (drop (m + 1) bs))
    → (if v then [] ∷ rows bs else onto_first b (rows bs)) ≡ take n (b ∷ bs) ∷ rows (drop (n + 1) (b ∷ bs))
first_step b bs n true e small ih = rw e refl
first_step b bs n false e small ih =
    let m = prefix_len in_row bs in
    let e' : n ≡ suc m = omega arith in
    let f : suc m + 1 ≡ suc (m + 1) = omega arith in
    rw (e', f, ih m refl (omega arith)) refl

pub first_row : (bs : List ℕ) (n : ℕ) → n ≡ prefix_len in_row bs → n < length bs → rows bs ≡ take n bs ∷ rows (drop (n + 1) bs)
unfolding rows
first_row [] n e small = absurd (omega arith)
first_row (b ∷ bs) n e small = first_step b bs n (b == 47) e small (first_row bs)

onto_length : (b : ℕ) (rs : List (List ℕ)) → length (onto_first b rs) ≡ length rs
onto_length b [] = refl
onto_length b (r ∷ rs) = refl

some_step : (b : ℕ) (rs : List (List ℕ)) (v : Bool) → 0 < length rs → 0 < length (if v then [] ∷ rs else onto_first b rs)
some_step b rs true h = omega arith
some_step b rs false h = rw (onto_length b rs) h

pub some_row : (bs : List ℕ) → 0 < length (rows bs)
unfolding rows
some_row [] = omega arith
some_row (b ∷ bs) = some_step b (rows bs) (b == 47) (some_row bs)

-- as the code cuts it
pub row_cut : (bs rest : List ℕ) (n : ℕ) → n ≡ prefix_len in_row bs → n < length bs → rest ≡ take (length bs - (n + 1)) (drop (n + 1) bs) → rows bs ≡ take n bs ∷ rows rest
row_cut bs rest n e small f =
    let g : length (drop (n + 1) bs) ≤ length bs - (n + 1) = omega (arith, length-drop (n + 1) bs) in
    let h : rest ≡ drop (n + 1) bs = f ∙ take_all (length bs - (n + 1)) (drop (n + 1) bs) g in
    rw h (first_row bs n e small)

-- the test for the end of a list
pub is_nothing : (v : Bool) (n : ℕ) → v ≡ (n == 0) → v ≡ true → n ≡ 0
is_nothing v n e f = let g : (n == 0) ≡ true = sym e ∙ f in eqb-true n 0 g

pub is_something : (v : Bool) (n : ℕ) → v ≡ (n == 0) → v ≡ false → 0 < n
is_something v n e f = let g : (n == 0) ≡ false = sym e ∙ f in grind (arith, nat_tests)
