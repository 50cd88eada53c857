-- Elements of a list that gets longer at its end.
use Rattle.std.proofs.Common.{◌≡◌, ℕ, zero, suc, ◌<◌, ◌⊎◌, inl, inr, List, [], ◌∷◌, ◌++◌, length, Some, slice_get, refl, sym, ap, ◌∙◌, arith, length-append}
use Rattle.std.proofs.lemmas.List.{get_or_append_left}
use Rattle.std.proofs.lemmas.Option.{same_Some, slice_get-get_or, get_or_from_slice_get}
use Rattle.std.proofs.Math.Seq.{get_or-append_seam}

-- what stands at a place stays there
pub stays_at : {X : Type 0} (xs ys : List X) (i : ℕ) (z : X) → slice_get xs i ≡ Some z → slice_get (xs ++ ys) i ≡ Some z
stays_at [] ys i z at = cc
stays_at (x ∷ xs) ys zero z at = at
stays_at (x ∷ xs) ys (suc i) z at = stays_at xs ys i z at

-- what stands at a place that was there stood there
pub was_at : {X : Type 0} (xs ys : List X) (k : ℕ) (x : X) → k < length xs → slice_get (xs ++ ys) k ≡ Some x → slice_get xs k ≡ Some x
was_at xs ys k x inside e =
    slice_get-get_or xs k x inside ∙ ap Some (sym (get_or_append_left xs ys x k inside) ∙ get_or_from_slice_get (xs ++ ys) k x x e)

-- one more element stands behind the others
pub last_at : {X : Type 0} (xs : List X) (x : X) → slice_get (xs ++ x ∷ []) (length xs) ≡ Some x
last_at xs x =
    let inside : length xs < length (xs ++ x ∷ []) = omega (arith, length-append xs (x ∷ [])) in
    slice_get-get_or (xs ++ x ∷ []) (length xs) x inside ∙ ap Some (get_or-append_seam xs x [] x)

-- an element stood there, or is the one that was added
pub push_cases : {X : Type 0} (xs : List X) (y : X) (i : ℕ) (z : X) → slice_get (xs ++ y ∷ []) i ≡ Some z → (slice_get xs i ≡ Some z) ⊎ ((i ≡ length xs) × (y ≡ z))
push_cases [] y zero z h = inr (refl, same_Some y z h)
push_cases [] y (suc i) z h = cc
push_cases (x ∷ xs) y zero z h = inl h
push_cases (x ∷ xs) y (suc i) z h = elim (push_cases xs y i z h) [
  | inl before ↦ inl before
  | inr last ↦ inr (ap suc last.0, last.1)
]

-- where nothing stands, nothing stood
pub left_nothing : {X : Type 0} (a b : List X) → a ++ b ≡ [] → a ≡ []
left_nothing [] b e = refl
left_nothing (x ∷ a) b e = cc
