-- Tests of all squares.
use Rattle.std.proofs.Common.{◌≡◌, ℕ, suc, zero, ◌+◌, ◌<◌, ◌≤◌, Bool, true, false, List, length, get_or, take, refl, ◌∙◌, arith, zero-add, add-one}
use Rattle.std.specs.List.{All, list_all, list_any, count_by, range_with_len}
use Rattle.std.proofs.lemmas.List.{take_all}
use Rattle.std.proofs.lemmas.List.FromFn.{length-range_with_len, get_or-range_with_len}
use Rattle.std.proofs.lemmas.List.Folds.{list_any_at, list_any_none}
use Rattle.std.proofs.lemmas.List.Sums.{AllPass-from_list_all, list_all-from_AllPass, count_by_more_no}
use Rattle.cha_board.specs.Squares.{squares}
use Rattle.cha_board.proofs.SetLaws.{squares_are}

pub length_squares : length squares ≡ 64
unfolding squares
length_squares = length-range_with_len 0 64

-- the s-th square is s
pub square_at : (s d : ℕ) → s < 64 → get_or squares s d ≡ s
unfolding squares
square_at s d small = get_or-range_with_len 0 64 s d small ∙ zero-add s

-- a square that passes settles whether some square does
pub any_square_at : (p : ℕ → Bool) (s : ℕ) → s < 64 → p s ≡ true → list_any p squares ≡ true
any_square_at p s small passes =
    let n = length_squares in
    list_any_at p squares s 0 (omega arith) (rw (square_at s 0 small) passes)

-- where each square fails, none passes
pub no_square : (p : ℕ → Bool) → ((s : ℕ) → s < 64 → p s ≡ false) → list_any p squares ≡ false
no_square p fails =
    let n = length_squares in
    list_any_none p squares (λ k d inside. let small : k < 64 = omega arith in rw (square_at k d small) (fails k small))

-- where all squares pass, each does
pub all_squares_at : (p : ℕ → Bool) (s : ℕ) → list_all p squares ≡ true → s < 64 → p s ≡ true
all_squares_at p s h small =
    let n = length_squares in
    rw (square_at s 0 small) at (AllPass-from_list_all p squares h s 0 (omega arith))

-- a test that holds of all pairs of squares
pub pair_at : (f : ℕ → ℕ → Bool) → list_all (λ s. list_all (f s) squares) squares ≡ true → (s t : ℕ) → s < 64 → t < 64 → f s t ≡ true
pair_at f table s t small small' = all_squares_at (f s) t (all_squares_at (λ s. list_all (f s) squares) s table small) small'

-- where each square passes, all do
pub each_square : (p : ℕ → Bool) → ((s : ℕ) → s < 64 → p s ≡ true) → list_all p squares ≡ true
each_square p passes =
    let n = length_squares in
    list_all-from_AllPass p squares (λ k d inside. let small : k < 64 = omega arith in rw (square_at k d small) (passes k small))

any_alike_of : (p q : ℕ → Bool) (a n : ℕ) → ((k : ℕ) → a ≤ k → k < a + n → p k ≡ q k) → list_any p (range_with_len a n) ≡ list_any q (range_with_len a n)
any_alike_of p q a zero same = refl
any_alike_of p q a (suc n) same =
    rw (same a (omega arith) (omega arith), any_alike_of p q (a + 1) n (λ k low high. same k (omega (arith, low)) (omega (arith, high)))) refl

any_alike_in : (p q : ℕ → Bool) (n : ℕ) (xs : List ℕ) → xs ≡ range_with_len 0 n → ((k : ℕ) → k < n → p k ≡ q k) → list_any p xs ≡ list_any q xs
any_alike_in p q n xs e same = rw e (any_alike_of p q 0 n (λ k _ small. same k (omega (arith, small))))

-- tests that agree at each square agree on whether some square passes
pub any_alike : (p q : ℕ → Bool) → ((s : ℕ) → s < 64 → p s ≡ q s) → list_any p squares ≡ list_any q squares
any_alike p q same = any_alike_in p q 64 squares squares_are same

-- where each element fails, none is counted
none_counted_below : {X : Type 0} (p : X → Bool) (xs : List X) (n : ℕ) (d : X) → All (λ x. p x ≡ false) xs → n ≤ length xs → count_by p (take n xs) ≡ 0
none_counted_below p xs zero d fails few = refl
none_counted_below p xs (suc n) d fails few =
    rw (← add-one n) (count_by_more_no p xs n d (omega arith) (fails n d (omega arith)) ∙ none_counted_below p xs n d fails (omega arith))

pub none_counted : {X : Type 0} (p : X → Bool) (xs : List X) (d : X) → All (λ x. p x ≡ false) xs → count_by p xs ≡ 0
none_counted p xs d fails =
    rw (take_all (length xs) xs (omega arith)) at (none_counted_below p xs (length xs) d fails (omega arith))
