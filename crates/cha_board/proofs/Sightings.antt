-- The squares between two squares of a line, as they are walked, and what is seen along them.
use Rattle.std.proofs.Common.{◌≡◌, ℕ, ◌+◌, ◌-◌, ◌*◌, ◌/◌, ◌<◌, ◌≤◌, min, Bool, true, false, ◌&&◌, ◌==◌, if◌then◌else◌, List, [], ◌∷◌, length, get_or, map, Option, None, Some, is_some, refl, ap, ◌∙◌, arith}
use Rattle.std.specs.List.{list_all, range_with_len}
use Rattle.std.specs.Int.{abs_diff}
use Rattle.std.proofs.lemmas.Bool.{and_parts, eqb-true}
use Rattle.std.proofs.lemmas.List.FromFn.{length-map-range_with_len, get_or-map-range_with_len}
use Rattle.std.proofs.lemmas.List.Folds.{list_all_at}
use Rattle.std.proofs.lemmas.List.Sums.{list_all-from_AllPass}
use Rattle.cha_board.specs.declared.men.Color.{Color}
use Rattle.cha_board.specs.declared.men.Man.{Man}
use Rattle.cha_board.specs.Squares.{squares, files_apart, ranks_apart, steps_apart, is_straight, is_diagonal, is_line, is_within, lies_between, between}
use Rattle.cha_board.specs.Men.{is_vacant}
use Rattle.cha_board.specs.Board.{man_at, is_empty, is_clear, attacks_as, attacked}
use Rattle.cha_board.proofs.Scans.{pair_at, any_square_at, no_square}

-- the k-th square of the walk from the lower of two squares of a line to the higher one
abbrev pub step_on : ℕ → ℕ → ℕ → ℕ
step_on s t k = min s t + k * (abs_diff s t / steps_apart s t)

-- the walk between two squares
unfoldable pub way : ℕ → ℕ → List ℕ
way s t = if is_line s t then map (step_on s t) (range_with_len 1 (steps_apart s t - 1)) else []

same_list : List ℕ → List ℕ → Bool
same_list [] [] = true
same_list (a ∷ as') (b ∷ bs) = (a == b) && same_list as' bs
same_list _ _ = false

from_same_list : (a b : List ℕ) → same_list a b ≡ true → a ≡ b
unfolding same_list
from_same_list [] [] h = refl
from_same_list [] (y ∷ ys) h = cc
from_same_list (x ∷ xs) [] h = cc
from_same_list (x ∷ xs) (y ∷ ys) h =
    let both = and_parts (x == y) (same_list xs ys) h in
    let e = eqb-true x y both.0 in
    let f = from_same_list xs ys both.1 in
    cc

way_test : ℕ → ℕ → Bool
way_test s t = same_list (between s t) (way s t)

way_table : list_all (λ s. list_all (λ t. way_test s t) squares) squares ≡ true
unfolding way_test same_list way between lies_between is_within is_straight is_diagonal is_line steps_apart files_apart ranks_apart squares
way_table = refl

pub between_is_way : (s t : ℕ) → s < 64 → t < 64 → between s t ≡ way s t
unfolding way_test
between_is_way s t small small' =
    from_same_list (between s t) (way s t) (pair_at way_test way_table s t small small')

-- the first step of the walk that is not empty hides what is beyond it
pub hidden_by : (men : List (Option Man)) (s t k : ℕ) → s < 64 → t < 64 → is_line s t ≡ true → 1 ≤ k → k < steps_apart s t → is_empty men (step_on s t k) ≡ false
    → is_clear men s t ≡ false
unfolding is_clear way
hidden_by men s t k small small' line first few stands =
    let n = steps_apart s t - 1 in
    let w = map (step_on s t) (range_with_len 1 n) in
    let e : between s t ≡ w = between_is_way s t small small' ∙ rw line refl in
    let size : length w ≡ n = length-map-range_with_len (step_on s t) 1 n in
    let at : get_or w (k - 1) 0 ≡ step_on s t k = get_or-map-range_with_len (step_on s t) 1 n (k - 1) k 0 (omega arith) (omega arith) in
    rw e (list_all_at (λ u. is_empty men u) w (k - 1) 0 (omega arith) (ap (λ u. is_empty men u) at ∙ stands))

-- where each step of the walk is empty, nothing is hidden
pub seen_along : (men : List (Option Man)) (s t : ℕ) → s < 64 → t < 64 → is_line s t ≡ true
    → ((k : ℕ) → 1 ≤ k → k < steps_apart s t → is_empty men (step_on s t k) ≡ true) → is_clear men s t ≡ true
unfolding is_clear way
seen_along men s t small small' line empty =
    let n = steps_apart s t - 1 in
    let w = map (step_on s t) (range_with_len 1 n) in
    let e : between s t ≡ w = between_is_way s t small small' ∙ rw line refl in
    let size : length w ≡ n = length-map-range_with_len (step_on s t) 1 n in
    let each = λ (k d : ℕ) (inside : k < length w).
    let at : get_or w k d ≡ step_on s t (k + 1) = get_or-map-range_with_len (step_on s t) 1 n k (k + 1) d (omega arith) (omega arith) in
    ap (λ u. is_empty men u) at ∙ empty (k + 1) (omega arith) (omega arith) in
    rw e (list_all-from_AllPass (λ u. is_empty men u) w each)

-- squares of no line see each other
pub seen_off_line : (men : List (Option Man)) (s t : ℕ) → s < 64 → t < 64 → is_line s t ≡ false → is_clear men s t ≡ true
unfolding is_clear way
seen_off_line men s t small small' off =
    let e : between s t ≡ [] = between_is_way s t small small' ∙ rw off refl in
    rw e refl

-- a man that attacks a square settles that it is attacked
pub attacked_from : (men : List (Option Man)) (c : Color) (t s : ℕ) → s < 64 → attacks_as men c t s (man_at men s) ≡ true → attacked men c t ≡ true
unfolding attacked
attacked_from men c t s small h = any_square_at (λ s. attacks_as men c t s (man_at men s)) s small h

pub attacked_by_none : (men : List (Option Man)) (c : Color) (t : ℕ) → ((s : ℕ) → s < 64 → attacks_as men c t s (man_at men s) ≡ false) → attacked men c t ≡ false
unfolding attacked
attacked_by_none men c t none = no_square (λ s. attacks_as men c t s (man_at men s)) none

pub stands_there : (o : Option Man) → is_some o ≡ true → is_vacant o ≡ false
stands_there None h = cc
stands_there (Some man) h = refl
