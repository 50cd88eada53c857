-- What the elements of a list are mapped to, as one is added.
use Rattle.std.proofs.Common.{◌≡◌, ℕ, zero, suc, ◌<◌, ◌⊎◌, inl, inr, List, [], ◌∷◌, ◌++◌, map, length, Some, slice_get, refl, ap, arith}
use Rattle.std.proofs.lemmas.Option.{same_Some}

module _ {X Y : Type 0} (f : X → Y) where
  pub map_push_cases : (xs : List X) (y : X) (i : ℕ) (z : Y) → slice_get (map f (xs ++ y ∷ [])) i ≡ Some z → (slice_get (map f xs) i ≡ Some z) ⊎ ((i ≡ length xs) × (f y ≡ z))
  map_push_cases [] y zero z h = inr (refl, same_Some (f y) z h)
  map_push_cases [] y (suc i) z h = cc
  map_push_cases (x ∷ xs) y zero z h = inl h
  map_push_cases (x ∷ xs) y (suc i) z h = elim (map_push_cases xs y i z h) [
    | inl before ↦ inl before
    | inr last ↦ inr (ap suc last.0, last.1)
  ]

  pub map_push_keeps : (xs ys : List X) (i : ℕ) (z : Y) → slice_get (map f xs) i ≡ Some z → slice_get (map f (xs ++ ys)) i ≡ Some z
  map_push_keeps [] ys i z h = cc
  map_push_keeps (x ∷ xs) ys zero z h = h
  map_push_keeps (x ∷ xs) ys (suc i) z h = map_push_keeps xs ys i z h

  pub map_push_at : (xs : List X) (y : X) → slice_get (map f (xs ++ y ∷ [])) (length xs) ≡ Some (f y)
  map_push_at [] y = refl
  map_push_at (x ∷ xs) y = map_push_at xs y

  pub map_within : (xs : List X) (i : ℕ) (z : Y) → slice_get (map f xs) i ≡ Some z → i < length xs
  map_within [] i z h = cc
  map_within (x ∷ xs) zero z h = omega arith
  map_within (x ∷ xs) (suc i) z h = let rest : i < length xs = map_within xs i z h in omega arith
