-- Lists no two elements of which are one.
use Rattle.std.proofs.Common.{◌≡◌, ℕ, zero, suc, ◌+◌, ◌<◌, ◌≤◌, Bool, true, false, cond, List, [], ◌∷◌, ◌++◌, map, length, inl, inr, refl, sym, ◌∙◌, ap, subst, arith}
use Rattle.std.specs.List.{Contains, filter, flat_map, range_with_len}
use Rattle.std.proofs.lemmas.List.Elements.{All-contains, All-filter, All-contains_itself, Contains-append_cases}
use Rattle.std.proofs.lemmas.List.FromFn.{get_or-range_with_len, length-range_with_len}
use Rattle.cha_moves.proofs.Contained.{not_in_nothing, Contains-cons_cases, Contains-cons_here, Contains-cons_there, Contains-map_parts, Contains-map_from, Contains-flat_map_parts}
use Rattle.cha_list.specs.Distinct.{AreDistinct}
use Rattle.cha_list.proofs.Distinct.{none_apart, one_more_apart}

pub joined_apart : {X : Type 0} (xs ys : List X) → AreDistinct xs → AreDistinct ys → ((x : X) → Contains xs x → Contains ys x → ⊥) → AreDistinct (xs ++ ys)
unfolding AreDistinct
joined_apart [] ys a b none = b
joined_apart (x ∷ xs) ys a b none = (
  (λ there. elim (Contains-append_cases xs ys x there) [
    | inl h ↦ a.0 h
    | inr h ↦ none x (Contains-cons_here x xs x refl) h
  ]),
  joined_apart xs ys a.1 b (λ y here there. none y (Contains-cons_there x xs y here) there),
)

-- images under what tells elements apart
pub images_apart : {X Y : Type 0} (f : X → Y) → ((a b : X) → f a ≡ f b → a ≡ b) → (xs : List X) → AreDistinct xs → AreDistinct (map f xs)
unfolding AreDistinct
images_apart f one [] d = tt
images_apart {X = X} f one (x ∷ xs) d = (
  (λ there.
      let p = Contains-map_parts f xs (f x) there in
      let P : X → Type 0 = λ y. Contains xs y in
      d.0 (subst P (one p.0 x p.2) p.1)),
  images_apart f one xs d.1,
)

-- elements whose images differ
pub apart_by_images : {X Y : Type 0} (f : X → Y) (xs : List X) → AreDistinct (map f xs) → AreDistinct xs
unfolding AreDistinct
apart_by_images f [] d = tt
apart_by_images f (x ∷ xs) d = ((λ there. d.0 (Contains-map_from f xs x there)), apart_by_images f xs d.1)

kept_apart : {X : Type 0} (b : Bool) (x : X) (xs : List X) → (Contains xs x → ⊥) → AreDistinct xs → AreDistinct (cond b (x ∷ xs) xs)
kept_apart true x xs new rest = one_more_apart x xs new rest
kept_apart false x xs new rest = rest

pub filtered_apart : {X : Type 0} (p : X → Bool) (xs : List X) → AreDistinct xs → AreDistinct (filter p xs)
unfolding AreDistinct
filtered_apart p [] d = tt
filtered_apart p (x ∷ xs) d =
    kept_apart (p x) x (filter p xs) (λ there. d.0 (All-contains (Contains xs) (filter p xs) x (All-filter p (Contains xs) xs (All-contains_itself xs)) there)) (filtered_apart p xs d.1)

-- pieces that tell what they are made of
pub pieces_apart : {X Y : Type 0} (f : X → List Y) → ((x : X) → AreDistinct (f x)) → ((a b : X) (y : Y) → Contains (f a) y → Contains (f b) y → a ≡ b) → (xs : List X) → AreDistinct xs → AreDistinct (flat_map f xs)
unfolding AreDistinct
pieces_apart f each one [] d = tt
pieces_apart {X = X} f each one (x ∷ xs) d =
    joined_apart (f x) (flat_map f xs) (each x) (pieces_apart f each one xs d.1) (λ y here there.
    let p = Contains-flat_map_parts f xs y there in
    let P : X → Type 0 = λ z. Contains xs z in
    d.0 (subst P (one p.0 x y p.2 here) p.1))

-- numbers in a row
from_there : (a n x : ℕ) → Contains (range_with_len a n) x → a ≤ x
from_there a n x h =
    let k = h.0 in
    let size = length-range_with_len a n in
    let inside = h.1 in
    let small : k < n = omega arith in
    let e : a + k ≡ x = sym (get_or-range_with_len a n k x small) ∙ h.2 in
    omega arith

pub numbers_apart : (a n : ℕ) → AreDistinct (range_with_len a n)
numbers_apart a zero = none_apart ℕ
numbers_apart a (suc n) =
    one_more_apart a (range_with_len (a + 1) n) (λ there. let more = from_there (a + 1) n a there in omega arith) (numbers_apart (a + 1) n)

-- what is left of a list without an element
pub removed : {X : Type 0} (ys : List X) (x : X) → Contains ys x → (zs : List X) × (length ys ≡ suc (length zs)) × ((z : X) → Contains ys z → (x ≡ z → ⊥) → Contains zs z)
removed [] x h = absurd (not_in_nothing x h)
removed (y ∷ ys) x h = elim (Contains-cons_cases y ys x h) [
  | inl e ↦ (ys, refl, (λ z there other. elim (Contains-cons_cases y ys z there) [ inl same ↦ absurd (other (sym e ∙ same)) | inr later ↦ later ]))
  | inr behind ↦
      (let r = removed ys x behind in
      (y ∷ r.0, ap suc r.1, (λ z there other. elim (Contains-cons_cases y ys z there) [ inl same ↦ Contains-cons_here y r.0 z same | inr later ↦ Contains-cons_there y r.0 z (r.2 z later other) ])))
]

-- elements that differ and are all of a list are no more than it has
pub no_more_than : {X : Type 0} (xs ys : List X) → AreDistinct xs → ((x : X) → Contains xs x → Contains ys x) → length xs ≤ length ys
unfolding AreDistinct
no_more_than [] ys d inside = omega arith
no_more_than {X = X} (x ∷ xs) ys d inside =
    let r = removed ys x (inside x (Contains-cons_here x xs x refl)) in
    let P : X → Type 0 = λ y. Contains xs y in
    let rest = no_more_than xs r.0 d.1 (λ z there. r.2 z (inside z (Contains-cons_there x xs z there)) (λ e. d.0 (subst P (sym e) there))) in
    let size : length ys ≡ suc (length r.0) = r.1 in
    omega arith
