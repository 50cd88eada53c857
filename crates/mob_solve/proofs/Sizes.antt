-- How many squares a set has.
use Rattle.std.proofs.Common.{◌≡◌, ℕ, zero, suc, ◌<◌, ◌≤◌, Bool, true, false, cond, List, [], ◌∷◌, length, get_or, refl, sym, ap, ◌∙◌, arith}
use Rattle.std.specs.List.{count_by}
use Rattle.std.proofs.lemmas.List.Sums.{sum_by-cons, count_by-le-length}
use Rattle.cha_board.specs.Squares.{squares}
use Rattle.cha_board.specs.SquareSets.{has_square, set_joined, is_subset}
use Rattle.cha_board.proofs.Scans.{length_squares, square_at}
use Rattle.cha_board.proofs.Contents.{outside, joined_left, joined_right}
use Rattle.mob_solve.specs.Reaching.{size_of}

one_le : (a b : Bool) → (a ≡ true → b ≡ true) → cond a 1 0 ≤ cond b 1 0
one_le true true h = omega arith
one_le true false h = (let f = h refl in cc)
one_le false true h = omega arith
one_le false false h = omega arith

count_grows : (p q : ℕ → Bool) (xs : List ℕ) → ((k d : ℕ) → k < length xs → p (get_or xs k d) ≡ true → q (get_or xs k d) ≡ true) → count_by p xs ≤ count_by q xs
count_grows p q [] weaker = omega arith
count_grows p q (x ∷ xs) weaker =
    let a = sum_by-cons (λ y. cond (p y) 1 0) x xs in
    let b = sum_by-cons (λ y. cond (q y) 1 0) x xs in
    let first = one_le (p x) (q x) (weaker 0 0 (omega arith)) in
    let rest = count_grows p q xs (λ k d inside. weaker (suc k) d (omega arith)) in
    omega (arith, a, b, first, rest)

count_more : (p q : ℕ → Bool) (xs : List ℕ) (i : ℕ) → ((k d : ℕ) → k < length xs → p (get_or xs k d) ≡ true → q (get_or xs k d) ≡ true)
    → i < length xs → p (get_or xs i 0) ≡ false → q (get_or xs i 0) ≡ true → count_by p xs < count_by q xs
count_more p q [] i weaker inside fails passes = absurd (omega (arith, inside))
count_more p q (x ∷ xs) zero weaker inside fails passes =
    let a = sum_by-cons (λ y. cond (p y) 1 0) x xs in
    let b = sum_by-cons (λ y. cond (q y) 1 0) x xs in
    let e : cond {A = ℕ} (p x) 1 0 ≡ 0 = ap (λ t. cond {A = ℕ} t 1 0) fails in
    let f : cond {A = ℕ} (q x) 1 0 ≡ 1 = ap (λ t. cond {A = ℕ} t 1 0) passes in
    let rest = count_grows p q xs (λ k d inside. weaker (suc k) d (omega arith)) in
    omega (arith, a, b, e, f, rest)
count_more p q (x ∷ xs) (suc i) weaker inside fails passes =
    let a = sum_by-cons (λ y. cond (p y) 1 0) x xs in
    let b = sum_by-cons (λ y. cond (q y) 1 0) x xs in
    let first = one_le (p x) (q x) (weaker 0 0 (omega arith)) in
    let rest = count_more p q xs i (λ k d inside. weaker (suc k) d (omega arith)) (omega arith) fails passes in
    omega (arith, a, b, first, rest)

-- a set with more squares is larger
pub size_more : (a b : List Bool) → ((u : ℕ) → u < 64 → has_square a u ≡ true → has_square b u ≡ true) → (u : ℕ) → u < 64 → has_square a u ≡ false → has_square b u ≡ true → size_of a < size_of b
unfolding size_of
size_more a b weaker u small fails passes =
    let n = length_squares in
    let at = square_at u 0 small in
    count_more (has_square a) (has_square b) squares u (λ k d inside.
    let small' : k < 64 = omega (arith, n, inside) in
    let e = square_at k d small' in
    (λ h. ap (has_square b) e ∙ weaker k small' (sym (ap (has_square a) e) ∙ h))) (omega (arith, n)) (ap (has_square a) at ∙ fails) (ap (has_square b) at ∙ passes)

pub size_small : (a : List Bool) → size_of a ≤ 64
unfolding size_of
size_small a = (let n = length_squares in let few = count_by-le-length (has_square a) squares in omega (arith, n, few))

-- joined with what is not a part of it, a set is larger
pub joined_more : (a b : List Bool) → is_subset b a ≡ false → size_of a < size_of (set_joined a b)
joined_more a b new =
    let k = outside b a new in
    size_more a (set_joined a b) (λ u small h. joined_left a b u small h) k.0 k.1 k.3 (joined_right a b k.0 k.1 k.2)
