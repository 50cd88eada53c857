-- The first lines of several lists, one behind the other.
use Rattle.std.proofs.Common.{◌≡◌, ℕ, zero, suc, ◌+◌, ◌<◌, ◌≤◌, List, [], ◌∷◌, ◌++◌, length, map, take, min, get_or, refl, sym, ◌∙◌, ap, subst, arith}
use Rattle.std.specs.List.{flat_map}
use Rattle.std.proofs.Math.Nat.{min-le_left}
use Rattle.std.proofs.lemmas.List.{length-take, take_more, take-map, take_all, flat_map_more, take-take}

-- the first n of what begins with the first n of xs and goes on with the first k of ys
first_both : {X : Type 0} (n k : ℕ) (xs ys : List X) → n ≤ k → take n (take n xs ++ take k ys) ≡ take n (xs ++ ys)
first_both zero k xs ys few = refl
first_both (suc n) zero xs ys few = absurd (omega (arith, few))
first_both (suc n) (suc k) [] ys few = take-take (suc n) (suc k) ys few
first_both (suc n) (suc k) (x ∷ xs) ys few = ap (λ l. x ∷ l) (first_both n (suc k) xs ys (omega (arith, few)))

-- none where there is no room
none_more : {X : Type 0} (n : ℕ) (xs ys : List X) → n ≤ length (take n xs) → take n xs ≡ take n (xs ++ ys)
none_more zero xs ys full = refl
none_more (suc n) [] ys full = absurd (omega (arith, full))
none_more (suc n) (x ∷ xs) ys full = ap (λ l. x ∷ l) (none_more n xs ys (omega (arith, full)))

joined_more : {X Y : Type 0} (i : ℕ) (f : Y → List X) (ys : List Y) (y : Y) → i < length ys → y ≡ get_or ys i y → flat_map f (take i ys) ++ f y ≡ flat_map f (take (i + 1) ys)
joined_more i f ys y less here =
    ap (λ x. flat_map f (take i ys) ++ f x) here ∙ flat_map_more f [] (take i ys) (get_or ys i y) ∙ ap (flat_map f) (sym (take_more ys i y less))

-- the first elements of one list more
pub join_one : {X Y Z : Type 0} (n k i : ℕ) (now next : List X) (g : Z → X) (kept all : List Z) (f : Y → List X) (ys : List Y) (y : Y) → now ≡ take n (flat_map f (take i ys)) → kept ≡ take k all → n ≤ k → f y ≡ map g all → next ≡ take n (now ++ map g kept) → i < length ys → y ≡ get_or ys i y
    → next ≡ take n (flat_map f (take (i + 1) ys))
join_one n k i now next g kept all f ys y is kept_is few all_is next_is less here =
    let before = flat_map f (take i ys) in
    next_is ∙ ap (λ l. take n (l ++ map g kept)) is ∙ ap (λ l. take n (take n before ++ l)) (ap (map g) kept_is ∙ sym (take-map g k all) ∙ ap (take k) (sym all_is))
    ∙ first_both n k before (f y) few ∙ ap (take n) (joined_more i f ys y less here)

-- there is no room for more
pub join_full : {X Y : Type 0} (n i : ℕ) (now : List X) (f : Y → List X) (ys : List Y) (y : Y) → now ≡ take n (flat_map f (take i ys)) → n ≤ length now → i < length ys → y ≡ get_or ys i y → now ≡ take n (flat_map f (take (i + 1) ys))
join_full n i now f ys y is full less here =
    let before = flat_map f (take i ys) in
    let R : List _ → Type 0 = λ l. n ≤ length l in
    is ∙ none_more n before (f y) (subst R is full) ∙ ap (take n) (joined_more i f ys y less here)

-- the lists of all items
pub join_all : {X Y : Type 0} (n i : ℕ) (now : List X) (f : Y → List X) (ys : List Y) → now ≡ take n (flat_map f (take i ys)) → length ys ≤ i → now ≡ take n (flat_map f ys)
join_all n i now f ys is all = is ∙ ap (λ l. take n (flat_map f l)) (take_all i ys all)

pub not_over : {X : Type 0} (n : ℕ) (now xs : List X) → now ≡ take n xs → length now ≤ n
not_over n now xs is =
    let size : length now ≡ min n (length xs) = ap length is ∙ length-take n xs in
    let few = min-le_left n (length xs) in
    omega arith
