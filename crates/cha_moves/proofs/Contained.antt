-- What a list contains that is filtered, or joined of pieces, and which squares there are.
use Rattle.std.proofs.Common.{◌≡◌, ℕ, ◌<◌, Bool, true, false, cond, List, [], ◌∷◌, map, ◌⊎◌, inl, inr, refl, sym, ◌∙◌, ap, subst, arith}
use Rattle.std.specs.List.{Contains, filter, flat_map}
use Rattle.std.proofs.lemmas.List.Elements.{All-contains, All-filter, All-contains_itself, filter_passes, Contains-append_cases, Contains-append_left, Contains-append_right, Contains-push, Contains-push_cases}
use Rattle.cha_board.specs.Squares.{squares}
use Rattle.cha_board.proofs.Scans.{length_squares, square_at}

-- nothing is in the empty list
pub not_in_nothing : {X : Type 0} (x : X) → Contains [] x → ⊥
not_in_nothing x h = (let few = h.1 in omega (arith, few))

-- an element stands first or in the rest
pub Contains-cons_cases : {X : Type 0} (y : X) (ys : List X) (x : X) → Contains (y ∷ ys) x → (y ≡ x) ⊎ Contains ys x
Contains-cons_cases y ys x h = elim (Contains-append_cases (y ∷ []) ys x h) [
  | inl a ↦ elim (Contains-push_cases [] y x a) [
    | inl b ↦ absurd (not_in_nothing x b)
    | inr b ↦ inl b
  ]
  | inr a ↦ inr a
]

pub Contains-cons_here : {X : Type 0} (y : X) (ys : List X) (x : X) → y ≡ x → Contains (y ∷ ys) x
Contains-cons_here {X = X} y ys x e = Contains-append_left (y ∷ []) ys x (let P = λ (z : X). Contains (y ∷ []) z in subst P e (Contains-push [] y))

pub Contains-cons_there : {X : Type 0} (y : X) (ys : List X) (x : X) → Contains ys x → Contains (y ∷ ys) x
Contains-cons_there y ys x h = Contains-append_right (y ∷ []) ys x h

still_kept : {X : Type 0} (b : Bool) (y : X) (zs : List X) (x : X) → Contains zs x → Contains (cond b (y ∷ zs) zs) x
still_kept true y zs x h = Contains-cons_there y zs x h
still_kept false y zs x h = h

kept_first : {X : Type 0} (b : Bool) (y : X) (zs : List X) (x : X) → b ≡ true → y ≡ x → Contains (cond b (y ∷ zs) zs) x
kept_first true y zs x h e = Contains-cons_here y zs x e
kept_first false y zs x h e = cc

-- what a filter keeps
pub Contains-filter_from : {X : Type 0} (p : X → Bool) (xs : List X) (x : X) → Contains xs x → p x ≡ true → Contains (filter p xs) x
Contains-filter_from p [] x h e = h
Contains-filter_from p (y ∷ ys) x h e = elim (Contains-cons_cases y ys x h) [
  | inl f ↦ kept_first (p y) y (filter p ys) x (ap p f ∙ e) f
  | inr f ↦ still_kept (p y) y (filter p ys) x (Contains-filter_from p ys x f e)
]

pub Contains-filter_parts : {X : Type 0} (p : X → Bool) (xs : List X) (x : X) → Contains (filter p xs) x → Contains xs x × (p x ≡ true)
Contains-filter_parts p xs x h =
    (All-contains (Contains xs) (filter p xs) x (All-filter p (Contains xs) xs (All-contains_itself xs)) h, All-contains (λ y. p y ≡ true) (filter p xs) x (filter_passes p xs) h)

-- the elements of the images
pub Contains-map_from : {X Y : Type 0} (f : X → Y) (xs : List X) (x : X) → Contains xs x → Contains (map f xs) (f x)
Contains-map_from f [] x h = absurd (not_in_nothing x h)
Contains-map_from f (y ∷ ys) x h = elim (Contains-cons_cases y ys x h) [
  | inl e ↦ Contains-cons_here (f y) (map f ys) (f x) (ap f e)
  | inr e ↦ Contains-cons_there (f y) (map f ys) (f x) (Contains-map_from f ys x e)
]

pub Contains-map_parts : {X Y : Type 0} (f : X → Y) (xs : List X) (y : Y) → Contains (map f xs) y → (x : X) × Contains xs x × (f x ≡ y)
Contains-map_parts f [] y h = absurd (not_in_nothing y h)
Contains-map_parts f (x ∷ xs) y h = elim (Contains-cons_cases (f x) (map f xs) y h) [
  | inl e ↦ (x, Contains-cons_here x xs x refl, e)
  | inr e ↦ (let rest = Contains-map_parts f xs y e in (rest.0, Contains-cons_there x xs rest.0 rest.1, rest.2))
]

-- the piece that an element of joined pieces is of
pub Contains-flat_map_parts : {X Y : Type 0} (f : X → List Y) (xs : List X) (y : Y) → Contains (flat_map f xs) y → (x : X) × Contains xs x × Contains (f x) y
Contains-flat_map_parts f [] y h = absurd (not_in_nothing y h)
Contains-flat_map_parts f (x ∷ xs) y h = elim (Contains-append_cases (f x) (flat_map f xs) y h) [
  | inl a ↦ (x, Contains-cons_here x xs x refl, a)
  | inr a ↦ (let rest = Contains-flat_map_parts f xs y a in (rest.0, Contains-cons_there x xs rest.0 rest.1, rest.2))
]

pub Contains-flat_map_from : {X Y : Type 0} (f : X → List Y) (xs : List X) (x : X) (y : Y) → Contains xs x → Contains (f x) y → Contains (flat_map f xs) y
Contains-flat_map_from f [] x y h k = absurd (not_in_nothing x h)
Contains-flat_map_from {X = X} f (z ∷ zs) x y h k = elim (Contains-cons_cases z zs x h) [
  | inl e ↦ Contains-append_left (f z) (flat_map f zs) y (let P = λ (w : X). Contains (f w) y in subst P (sym e) k)
  | inr e ↦ Contains-append_right (f z) (flat_map f zs) y (Contains-flat_map_from f zs x y e k)
]

-- the squares are the numbers below 64
pub Contains-squares_from : (s : ℕ) → s < 64 → Contains squares s
Contains-squares_from s small = (let n = length_squares in (s, omega arith, square_at s s small))

pub Contains-squares_small : (s : ℕ) → Contains squares s → s < 64
Contains-squares_small s h =
    let n = length_squares in
    let k = h.0 in
    let inside = h.1 in
    let small : k < 64 = omega arith in
    let e : k ≡ s = sym (square_at k s small) ∙ h.2 in
    omega arith
