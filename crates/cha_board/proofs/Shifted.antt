-- Ranks, colours of squares, homes of kings and rooks, and sets moved by one square, as what is done to their bits.
use Rattle.std.proofs.Common.{◌≡◌, ℕ, ◌+◌, ◌-◌, ◌*◌, ◌/◌, ◌%◌, ◌^◌, ◌<◌, ◌≤◌, Bool, true, false, not, ◌&&◌, ◌==◌, List, refl, sym, ap, ◌∙◌, arith, zero-add, inl, inr}
use Rattle.std.specs.List.{list_all, range_with_len}
use Rattle.std.proofs.lemmas.List.Sums.{AllPass-from_list_all}
use Rattle.std.proofs.lemmas.List.FromFn.{length-range_with_len, get_or-range_with_len}
use Rattle.std.specs.Int.{bit_at}
use Rattle.std.proofs.lemmas.Bool.{cases_Bool, eqb-true, eqb-false, and_right}
use Rattle.std.proofs.lemmas.Nat.{pow_pos}
use Rattle.std.proofs.Math.Nat.{mod-add-div, mod-lt}
use Rattle.std.proofs.lemmas.Nat.Bits.{bit_at-zero, bit_at_above, bit_at_cat_low, bit_at_cat_high}
use Rattle.cha_board.specs.declared.men.Color.TheVariants.{White, Black}
use Rattle.cha_board.specs.Men.{same_color}
use Rattle.cha_board.specs.Squares.{squares, file_of, rank_of, color_of_square, files_apart, ranks_apart, is_straight, is_diagonal, is_within, lies_between}
use Rattle.cha_board.specs.Board.{is_home}
use Rattle.cha_board.specs.SquareSets.{set_of, has_square, set_of_bits}
use Rattle.cha_board.proofs.SetLaws.{same_set}
use Rattle.cha_board.proofs.Scans.{all_squares_at}
use Rattle.cha_board.proofs.SetBits.{shown_at}
use Rattle.cha_board.proofs.Pulls.{agree, agreed}
use Rattle.cha_board.specs.Shifts.{is_above, is_below, is_right_of, is_left_of}

-- the low bits of a number that wraps
wrapped : (m t : ℕ) → t < 64 → bit_at (m % 2 ^ 64) t ≡ bit_at m t
wrapped m t small =
    let e : m ≡ m / 2 ^ 64 * 2 ^ 64 + m % 2 ^ 64 = omega arith in
    sym (ap (λ x. bit_at x t) e ∙ bit_at_cat_low (m / 2 ^ 64) 64 (m % 2 ^ 64) t small)

raised_low : (n k t : ℕ) → t < k → bit_at (n * 2 ^ k) t ≡ 0
raised_low n k t low =
    let e : n * 2 ^ k ≡ n * 2 ^ k + 0 = omega arith in
    ap (λ x. bit_at x t) e ∙ bit_at_cat_low n k 0 t low ∙ bit_at-zero t

raised_high : (n k t : ℕ) → k ≤ t → bit_at (n * 2 ^ k) t ≡ bit_at n (t - k)
raised_high n k t high =
    let e : n * 2 ^ k ≡ n * 2 ^ k + 0 = omega arith in
    ap (λ x. bit_at x t) e ∙ bit_at_cat_high n k 0 t (pow_pos k) high

lowered : (n k t : ℕ) → bit_at (n / 2 ^ k) t ≡ bit_at n (t + k)
lowered n k t =
    let d = 2 ^ k in
    let e : n / d * d + n % d ≡ n = omega (arith, mod-add-div n d) in
    let back : t + k - k ≡ t = omega arith in
    sym (ap (λ x. bit_at x (t + k)) (sym e) ∙ bit_at_cat_high (n / d) k (n % d) (t + k) (mod-lt n (pow_pos k)) (omega arith) ∙ ap (λ x. bit_at (n / d) x) back)

and_true : (a : Bool) → (a && true) ≡ a
and_true true = refl
and_true false = refl

-- the mask of all files but one
mask_test : ℕ → ℕ → ℕ → Bool
mask_test n file t = agree (bit_at n t == 1) (not (file_of t == file))

first_table : list_all (mask_test 18374403900871474942 0) squares ≡ true
unfolding mask_test agree squares
first_table = refl

last_table : list_all (mask_test 9187201950435737471 7) squares ≡ true
unfolding mask_test agree squares
last_table = refl

first_mask : (t : ℕ) → t < 64 → has_square (set_of_bits 18374403900871474942) t ≡ not (file_of t == 0)
unfolding mask_test
first_mask t small = shown_at 18374403900871474942 t small ∙ agreed (bit_at 18374403900871474942 t == 1) (not (file_of t == 0)) (all_squares_at (mask_test 18374403900871474942 0) t first_table small)

last_mask : (t : ℕ) → t < 64 → has_square (set_of_bits 9187201950435737471) t ≡ not (file_of t == 7)
unfolding mask_test
last_mask t small = shown_at 9187201950435737471 t small ∙ agreed (bit_at 9187201950435737471 t == 1) (not (file_of t == 7)) (all_squares_at (mask_test 9187201950435737471 7) t last_table small)

pub moved_north : (n : ℕ) (set : List Bool) → set ≡ set_of_bits n → set_of_bits (n * 2 ^ 8 % 2 ^ 64) ≡ set_of (is_above set)
moved_north n set is =
    same_set (λ s. bit_at (n * 2 ^ 8 % 2 ^ 64) s == 1) (is_above set) (λ t small.
    ap (λ x. x == 1) (wrapped (n * 2 ^ 8) t small) ∙
    elim (cases_Bool (rank_of t == 0)) [
      | inl e ↦ (
          let low : t < 8 = (let f = eqb-true (rank_of t) 0 e in omega (arith, f)) in
          ap (λ x. x == 1) (raised_low n 8 t low) ∙ sym (ap (λ b. not b && has_square set (t - 8)) e))
      | inr e ↦ (
          let high : 8 ≤ t = (let f = eqb-false (rank_of t) 0 e in omega (arith, f)) in
          ap (λ x. x == 1) (raised_high n 8 t high) ∙ sym (shown_at n (t - 8) (omega (arith, small))) ∙ ap (λ x. has_square x (t - 8)) (sym is)
          ∙ sym (ap (λ b. not b && has_square set (t - 8)) e))
    ])

pub moved_south : (n : ℕ) (set : List Bool) → set ≡ set_of_bits n → n < 2 ^ 64 → set_of_bits (n / 2 ^ 8) ≡ set_of (is_below set)
moved_south n set is bound =
    same_set (λ s. bit_at (n / 2 ^ 8) s == 1) (is_below set) (λ t small.
    ap (λ x. x == 1) (lowered n 8 t) ∙
    elim (cases_Bool (rank_of t == 7)) [
      | inl e ↦ (
          let high : 64 ≤ t + 8 = (let f = eqb-true (rank_of t) 7 e in omega (arith, f)) in
          ap (λ x. x == 1) (bit_at_above n 64 (t + 8) bound high) ∙ sym (ap (λ b. not b && has_square set (t + 8)) e))
      | inr e ↦ (
          let low : t + 8 < 64 = (let f = eqb-false (rank_of t) 7 e in omega (arith, f, small)) in
          sym (shown_at n (t + 8) low) ∙ ap (λ x. has_square x (t + 8)) (sym is) ∙ sym (ap (λ b. not b && has_square set (t + 8)) e))
    ])

pub moved_east : (n : ℕ) (set shifted mask new : List Bool) → set ≡ set_of_bits n → shifted ≡ set_of_bits (n * 2 ^ 1 % 2 ^ 64) → mask ≡ set_of_bits 18374403900871474942
    → new ≡ set_of (λ s. has_square shifted s && has_square mask s) → new ≡ set_of (is_right_of set)
moved_east n set shifted mask new is shift masks meets =
    meets ∙ same_set (λ s. has_square shifted s && has_square mask s) (is_right_of set) (λ t small.
    let m : has_square mask t ≡ not (file_of t == 0) = ap (λ x. has_square x t) masks ∙ first_mask t small in
    let a : has_square shifted t ≡ (bit_at (n * 2 ^ 1) t == 1) = ap (λ x. has_square x t) shift ∙ shown_at (n * 2 ^ 1 % 2 ^ 64) t small ∙ ap (λ x. x == 1) (wrapped (n * 2 ^ 1) t small) in
    elim (cases_Bool (file_of t == 0)) [
      | inl e ↦ ap (λ b. has_square shifted t && b) (m ∙ ap not e) ∙ and_right (has_square shifted t) false refl ∙ sym (ap (λ b. not b && has_square set (t - 1)) e)
      | inr e ↦ (
          let high : 1 ≤ t = (let f = eqb-false (file_of t) 0 e in omega (arith, f)) in
          ap (λ b. has_square shifted t && b) (m ∙ ap not e) ∙ and_true (has_square shifted t) ∙ a
          ∙ ap (λ x. x == 1) (raised_high n 1 t high) ∙ sym (shown_at n (t - 1) (omega (arith, small))) ∙ ap (λ x. has_square x (t - 1)) (sym is)
          ∙ sym (ap (λ b. not b && has_square set (t - 1)) e))
    ])

pub moved_west : (n : ℕ) (set shifted mask new : List Bool) → set ≡ set_of_bits n → shifted ≡ set_of_bits (n / 2 ^ 1) → mask ≡ set_of_bits 9187201950435737471
    → new ≡ set_of (λ s. has_square shifted s && has_square mask s) → new ≡ set_of (is_left_of set)
moved_west n set shifted mask new is shift masks meets =
    meets ∙ same_set (λ s. has_square shifted s && has_square mask s) (is_left_of set) (λ t small.
    let m : has_square mask t ≡ not (file_of t == 7) = ap (λ x. has_square x t) masks ∙ last_mask t small in
    let a : has_square shifted t ≡ (bit_at n (t + 1) == 1) = ap (λ x. has_square x t) shift ∙ shown_at (n / 2 ^ 1) t small ∙ ap (λ x. x == 1) (lowered n 1 t) in
    elim (cases_Bool (file_of t == 7)) [
      | inl e ↦ ap (λ b. has_square shifted t && b) (m ∙ ap not e) ∙ and_right (has_square shifted t) false refl ∙ sym (ap (λ b. not b && has_square set (t + 1)) e)
      | inr e ↦ (
          let low : t + 1 < 64 = (let f = eqb-false (file_of t) 7 e in omega (arith, f, small)) in
          ap (λ b. has_square shifted t && b) (m ∙ ap not e) ∙ and_true (has_square shifted t) ∙ a
          ∙ sym (shown_at n (t + 1) low) ∙ ap (λ x. has_square x (t + 1)) (sym is) ∙ sym (ap (λ b. not b && has_square set (t + 1)) e))
    ])

rank_test : ℕ → ℕ → Bool
rank_test r t = agree (bit_at (255 * 2 ^ (r * 8) % 2 ^ 64) t == 1) (rank_of t == r)

rank_table : list_all (λ r. list_all (rank_test r) squares) (range_with_len 0 8) ≡ true
unfolding rank_test agree squares
rank_table = refl

pub rank_shown : (r : ℕ) → r < 8 → set_of_bits (255 * 2 ^ (r * 8) % 2 ^ 64) ≡ set_of (λ t. rank_of t == r)
unfolding rank_test
rank_shown r small =
    let row : list_all (rank_test r) squares ≡ true = (let all = AllPass-from_list_all (λ r. list_all (rank_test r) squares) (range_with_len 0 8) rank_table r 0 (omega (arith, small, length-range_with_len 0 8)) in rw (get_or-range_with_len 0 8 r 0 small, zero-add r) at all) in
    same_set (λ s. bit_at (255 * 2 ^ (r * 8) % 2 ^ 64) s == 1) (λ t. rank_of t == r) (λ t inside. agreed (bit_at (255 * 2 ^ (r * 8) % 2 ^ 64) t == 1) (rank_of t == r) (all_squares_at (rank_test r) t row inside))

-- the squares of the two colours, as numbers
pub colors_shown : (set_of_bits 6172840429334713770 ≡ set_of (λ t. same_color (color_of_square t) White)) × (set_of_bits 12273903644374837845 ≡ set_of (λ t. same_color (color_of_square t) Black))
unfolding color_of_square squares
colors_shown = (refl, refl)

-- the homes of kings and rooks, as a number
pub homes_shown : set_of_bits 10448351135499550865 ≡ set_of is_home
unfolding squares
homes_shown = refl

-- the squares between the homes of kings and rooks, as numbers
pub ways_shown : (set_of_bits 96 ≡ set_of (lies_between 4 7)) × (set_of_bits 14 ≡ set_of (lies_between 4 0))
    × (set_of_bits 6917529027641081856 ≡ set_of (lies_between 60 63)) × (set_of_bits 1008806316530991104 ≡ set_of (lies_between 60 56))
unfolding squares lies_between is_within is_straight is_diagonal files_apart ranks_apart
ways_shown = (refl, refl, refl, refl)
