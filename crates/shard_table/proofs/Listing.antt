-- Rows in a list: where a row lies, what goes to the front, and what goes.
use Rattle.std.proofs.Common.{◌≡◌, ◌∙◌, refl, sym, ap, subst, ℕ, zero, suc, ◌+◌, ◌-◌, ◌<◌, Bool, true, false, cond, List, [], ◌∷◌, ◌++◌, map, take, length, get_or, Option, Some, None, slice_get, arith}
use Rattle.std.proofs.lemmas.List.{take_more, length-append}
use Rattle.std.specs.List.{remove}
use Rattle.cha_fact.specs.declared.key.Key.{Key}
use Rattle.cha_fact.specs.Truths.{Claim}
use Rattle.shard_table.specs.Places.{IsPlaceOf}
use Rattle.shard_table.specs.ShardRows.{row_key}
use Rattle.shard_table.specs.Shards.{same_key, find_row, without}

-- none of the rows before is of the key
more_step : (key : Key) (s : Claim) (rows more : List Claim) (b : Bool) → (find_row key rows ≡ None → find_row key more ≡ None) → cond b (Some s) (find_row key rows) ≡ None → cond b (Some s) (find_row key more) ≡ None
more_step key s rows more true on e = cc
more_step key s rows more false on e = on e

none_more : (key : Key) (rows : List Claim) (r : Claim) → find_row key rows ≡ None → same_key key (row_key r) ≡ false → find_row key (rows ++ r ∷ []) ≡ None
none_more key [] r none apart = rw apart refl
none_more key (s ∷ rows) r none apart = more_step key s rows (rows ++ r ∷ []) (same_key key (row_key s)) (λ e. none_more key rows r e apart) none

pub none_yet : (key : Key) (rows : List Claim) (i : ℕ) (r : Claim) → find_row key (take i rows) ≡ None → i < length rows → r ≡ get_or rows i r → same_key key (row_key r) ≡ false → find_row key (take (i + 1) rows) ≡ None
none_yet key rows i r none inside at apart =
    let grown = take_more rows i r inside in
    subst (λ xs. find_row key xs ≡ None) (sym (grown ∙ ap (λ x. take i rows ++ x ∷ []) (sym at))) (none_more key (take i rows) r none apart)

-- the first row of the key
here : (key : Key) (r row d : Claim) (rows : List Claim) → row ≡ r → same_key key (row_key row) ≡ true → (find_row key (r ∷ rows) ≡ Some r) × (rows ≡ without key (r ∷ rows))
here key r row d rows same is =
    let is' : same_key key (row_key r) ≡ true = ap (λ x. same_key key (row_key x)) (sym same) ∙ is in
    (rw is' refl, rw is' refl)

later : (key : Key) (r : Claim) (o : Option Claim) (rows some rest : List Claim) (b : Bool) → cond b (Some r) (find_row key some) ≡ None → (find_row key some ≡ None → (find_row key rows ≡ o) × (rest ≡ without key rows))
    → (cond b (Some r) (find_row key rows) ≡ o) × (r ∷ rest ≡ cond b rows (r ∷ without key rows))
later key r o rows some rest true none on = cc
later key r o rows some rest false none on = let h = on none in (h.0, ap (λ xs. r ∷ xs) h.1)

found_at : (key : Key) (rows : List Claim) (i : ℕ) (row d : Claim) → find_row key (take i rows) ≡ None → i < length rows → row ≡ get_or rows i row → same_key key (row_key row) ≡ true
    → (find_row key rows ≡ Some (get_or rows i d)) × (remove rows i ≡ without key rows)
found_at key [] i row d none inside at is = absurd (omega (arith, inside))
found_at key (r ∷ rows) zero row d none inside at is = here key r row d rows at is
found_at key (r ∷ rows) (suc i) row d none inside at is =
    later key r (Some (get_or rows i d)) rows (take i rows) (remove rows i) (same_key key (row_key r)) none (λ e. found_at key rows i row d e (omega (arith, inside)) at is)

pub place_is : (key : Key) (rows : List Claim) (i : ℕ) (row : Claim) → find_row key (take i rows) ≡ None → i < length rows → row ≡ get_or rows i row → same_key key (row_key row) ≡ true → IsPlaceOf key rows i
place_is key rows i row none inside at is = record { inside = inside; found = λ d. (found_at key rows i row d none inside at is).0; others = (found_at key rows i row row none inside at is).1 }

-- the last row of a full list goes
pub last_goes : (rows rest : List Claim) (last : Claim) (n : ℕ) → rows ≡ rest ++ last ∷ [] → length rows ≡ n → (slice_get (map row_key rows) (n - 1) ≡ Some (row_key last)) × (rest ≡ take (n - 1) rows)
last_goes rows rest last n is full =
    let long : length rest ≡ n - 1 = (let l = length-append rest (last ∷ []) in let m = ap length is in omega (arith, l, m, full)) in
    subst (λ m. (slice_get (map row_key rows) m ≡ Some (row_key last)) × (rest ≡ take m rows)) long
    (subst (λ xs. (slice_get (map row_key xs) (length rest) ≡ Some (row_key last)) × (rest ≡ take (length rest) xs)) (sym is) (at_end rest))
  where
    at_end : (xs : List Claim) → (slice_get (map row_key (xs ++ last ∷ [])) (length xs) ≡ Some (row_key last)) × (xs ≡ take (length xs) (xs ++ last ∷ []))
    at_end [] = (refl, refl)
    at_end (x ∷ xs) = let h = at_end xs in (h.0, ap (λ ys. x ∷ ys) h.1)
