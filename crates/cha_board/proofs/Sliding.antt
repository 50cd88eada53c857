-- How far men see along rays.
use Rattle.std.proofs.Common.{◌≡◌, ℕ, ◌+◌, ◌-◌, ◌*◌, ◌%◌, ◌/◌, ◌^◌, ◌<◌, ◌≤◌, suc, Bool, true, false, not, ◌==◌, ◌&&◌, ◌||◌, ltb, List, length, slice_index, bit_and, bit_or, refl, sym, ap, ◌∙◌, arith, inl, inr, pow-suc}
use Rattle.std.specs.List.{list_any}
use Rattle.std.specs.Int.{bit_at}
use mir.Syntax.{w64}
use Rattle.std.proofs.lemmas.Bool.{cases_lt, lt-ltb, le-ltb}
use Rattle.std.proofs.lemmas.Nat.{le_or_r, or_lt}
use Rattle.std.proofs.lemmas.Nat.Bits.{bit_at-lt, bit_at_and, bit_at_ones, bit_at_ones_above, bit_at_above, bit_at_set_other, bit_at_mask_inside, bit_at_mask_below, bit_at_cat_high, ones_shr, ones_shl}
use Rattle.cha_board.specs.declared.men.Color.TheVariants.{White}
use Rattle.cha_board.specs.declared.men.Kind.{Kind}
use Rattle.cha_board.specs.Squares.{squares, lies_between, aims_at}
use Rattle.cha_board.specs.SquareSets.{set_of, has_square, set_of_bits, bits_of_set, set_joined, set_common, has_no_square}
use Rattle.cha_board.proofs.SetLaws.{same_set, same_squares, length-set_of, has-set_of, set_of_bits-bits_of_set}
use Rattle.cha_board.specs.Aims.{is_open, aims_over, aimed, stops_before, stops_behind, seen_up, seen_down}
use Rattle.cha_board.proofs.Scans.{any_square_at, no_square, any_alike}
use Rattle.cha_board.proofs.SetBits.{shown_at, shown_joined, both_bits}
use Rattle.cha_board.proofs.Betweens.{between_bits, between_shown, open_is}
use Rattle.cha_board.proofs.Tables.{GoesUp, GoesDown, before_on_ray, behind_on_ray}

common_at : (ray occupied : List Bool) (n u : ℕ) → set_common ray occupied ≡ set_of_bits n → u < 64 → (has_square ray u && has_square occupied u) ≡ (bit_at n u == 1)
unfolding set_common
common_at ray occupied n u shown small =
    sym (has-set_of (λ s. has_square ray s && has_square occupied s) u small) ∙ ap (λ set. has_square set u) shown ∙ shown_at n u small

-- the lowest of the bits of a number and of bit 63, and the mask up to it
pub seen_up_is : (ray occupied : List Bool) (n f : ℕ) → set_common ray occupied ≡ set_of_bits n → f < 64 → bit_at (bit_or n 9223372036854775808) f ≡ 1
    → ((i : ℕ) → i < f → bit_at (bit_or n 9223372036854775808) i ≡ 0) → set_common ray (set_of_bits (2 ^ (f + 1) - 1)) ≡ seen_up ray occupied
unfolding set_common seen_up
seen_up_is ray occupied n f shown top here before =
    same_set (λ t. has_square ray t && has_square (set_of_bits (2 ^ (f + 1) - 1)) t) (λ t. has_square ray t && not (list_any (stops_before ray occupied t) squares)) (λ t small.
    ap (λ b. has_square ray t && b) (shown_at (2 ^ (f + 1) - 1) t small ∙ elim (cases_lt f t) [
      | inl beyond ↦ (
          let there : bit_at n f ≡ 1 = sym (bit_at_set_other w64 n 63 (omega arith) f (λ e. omega (arith, e, beyond, small))) ∙ here in
          let stop : stops_before ray occupied t f ≡ true = rw (lt-ltb f t beyond) (common_at ray occupied n f shown top ∙ ap (λ x. x == 1) there) in
          rw (bit_at_ones_above (f + 1) t (omega (arith, beyond)), any_square_at (stops_before ray occupied t) f top stop) refl)
      | inr inside ↦ (
          let none : (u : ℕ) → u < 64 → stops_before ray occupied t u ≡ false = λ u small'. elim (cases_lt u t) [
            | inl less ↦ (
                let off : bit_at n u ≡ 0 = sym (bit_at_set_other w64 n 63 (omega arith) u (λ e. omega (arith, e, less, small))) ∙ before u (omega (arith, less, inside)) in
                rw (lt-ltb u t less) (common_at ray occupied n u shown small' ∙ ap (λ x. x == 1) off))
            | inr more ↦ rw (le-ltb u t more) refl
          ] in
          rw (bit_at_ones (f + 1) t (omega (arith, inside)), no_square (stops_before ray occupied t) none) refl)
    ]))

pub top_bit : (n j : ℕ) → 2 ^ j ≤ n → n < 2 ^ suc j → bit_at n j ≡ 1
top_bit n j low high =
    let twice = pow-suc 2 j in
    let e : 1 * 2 ^ j + (n - 2 ^ j) ≡ n = omega (arith, low) in
    let none : j - j ≡ 0 = omega arith in
    ap (λ n. bit_at n j) (sym e) ∙ bit_at_cat_high 1 j (n - 2 ^ j) j (omega (arith, low, high, twice)) (omega arith) ∙ ap (bit_at 1) none

-- the highest of the bits of a number and of bit 0, and the mask from it on
pub seen_down_is : (ray occupied : List Bool) (n f : ℕ) → set_common ray occupied ≡ set_of_bits n → f < 64 → 2 ^ f ≤ bit_or n 1 → bit_or n 1 < 2 ^ suc f
    → set_common ray (set_of_bits (2 ^ 64 - 2 ^ f)) ≡ seen_down ray occupied
unfolding set_common seen_down
seen_down_is ray occupied n f shown top low high =
    same_set (λ t. has_square ray t && has_square (set_of_bits (2 ^ 64 - 2 ^ f)) t) (λ t. has_square ray t && not (list_any (stops_behind ray occupied t) squares)) (λ t small.
    ap (λ b. has_square ray t && b) (shown_at (2 ^ 64 - 2 ^ f) t small ∙ elim (cases_lt t f) [
      | inl beyond ↦ (
          let there : bit_at n f ≡ 1 = sym (bit_at_set_other w64 n 0 (omega arith) f (λ e. omega (arith, e, beyond))) ∙ top_bit (bit_or n 1) f low high in
          let stop : stops_behind ray occupied t f ≡ true = rw (lt-ltb t f beyond) (common_at ray occupied n f shown top ∙ ap (λ x. x == 1) there) in
          rw (bit_at_mask_below f 64 t beyond, any_square_at (stops_behind ray occupied t) f top stop) refl)
      | inr inside ↦ (
          let none : (u : ℕ) → u < 64 → stops_behind ray occupied t u ≡ false = λ u small'. elim (cases_lt t u) [
            | inl more ↦ (
                let off : bit_at n u ≡ 0 = sym (bit_at_set_other w64 n 0 (omega arith) u (λ e. omega (arith, e, more))) ∙ bit_at_above (bit_or n 1) (suc f) u high (omega (arith, more, inside)) in
                rw (lt-ltb t u more) (common_at ray occupied n u shown small' ∙ ap (λ x. x == 1) off))
            | inr less ↦ rw (le-ltb t u less) refl
          ] in
          rw (bit_at_mask_inside f 64 t inside small, no_square (stops_behind ray occupied t) none) refl)
    ]))

-- a number with bit 63, and one with bit 0
pub up_bounds : (n : ℕ) → n < 2 ^ 64 → (0 < bit_or n 9223372036854775808) × (bit_or n 9223372036854775808 < 2 ^ 64)
up_bounds n bound = (let some = le_or_r n 9223372036854775808 in omega (arith, some), or_lt 64 n 9223372036854775808 bound (omega arith))

pub down_bounds : (n : ℕ) → n < 2 ^ 64 → (0 < bit_or n 1) × (bit_or n 1 < 2 ^ 64)
down_bounds n bound = (let some = le_or_r n 1 in omega (arith, some), or_lt 64 n 1 bound (omega arith))

pub up_mask : (f : ℕ) → f < 64 → 18446744073709551615 / 2 ^ (63 - f) ≡ 2 ^ (f + 1) - 1
up_mask f small =
    let e : 64 - (63 - f) ≡ f + 1 = omega (arith, small) in
    ones_shr 64 (63 - f) (omega arith) ∙ ap (λ k. 2 ^ k - 1) e

pub down_mask : (f : ℕ) → f < 64 → 18446744073709551615 * 2 ^ f % 18446744073709551616 ≡ 2 ^ 64 - 2 ^ f
down_mask f small = ones_shl 64 f (omega (arith, small))

turned : (a b c : Bool) → (a && (b && c)) ≡ ((b && a) && c)
turned true true c = refl
turned true false c = refl
turned false true c = refl
turned false false c = refl

where_on : (a b c : Bool) → (a ≡ true → b ≡ c) → (a && b) ≡ (a && c)
where_on true b c same = same refl
where_on false b c same = refl

low_test : (t u : ℕ) → (bit_at (2 ^ t - 1) u == 1) ≡ ltb u t
low_test t u =
    elim (cases_lt u t) [
      | inl less ↦ rw (bit_at_ones t u less, lt-ltb u t less) refl
      | inr more ↦ rw (bit_at_ones_above t u more, le-ltb u t more) refl
    ]

high_test : (t u : ℕ) → u < 64 → (bit_at (2 ^ 64 - 2 ^ (t + 1)) u == 1) ≡ ltb t u
high_test t u small =
    elim (cases_lt t u) [
      | inl more ↦ rw (bit_at_mask_inside (t + 1) 64 u (omega (arith, more)) small, lt-ltb t u more) refl
      | inr less ↦ rw (bit_at_mask_below (t + 1) 64 u (omega (arith, less)), le-ltb t u less) refl
    ]

pub open_on : (occupied : List Bool) (s t ray mask : ℕ) (before : ℕ → Bool) → s < 64 → t < 64 → between_bits s t ≡ bit_and ray mask → ((u : ℕ) → u < 64 → (bit_at mask u == 1) ≡ before u)
    → not (list_any (λ u. before u && (has_square (set_of_bits ray) u && has_square occupied u)) squares) ≡ is_open occupied s t
unfolding has_no_square set_common
open_on occupied s t ray mask before small small' e test =
    ap not (any_alike (λ u. before u && (has_square (set_of_bits ray) u && has_square occupied u)) (has_square (set_of (λ u. has_square (set_of (lies_between s t)) u && has_square occupied u))) (λ u inside.
    let here : has_square (set_of (lies_between s t)) u ≡ (has_square (set_of_bits ray) u && before u)
    = ap (λ set. has_square set u) (sym (between_shown s t)) ∙ shown_at (between_bits s t) u inside ∙ ap (λ n. bit_at n u == 1) e ∙ ap (λ x. x == 1) (bit_at_and ray mask u)
    ∙ both_bits (bit_at ray u) (bit_at mask u) (bit_at-lt ray u) (bit_at-lt mask u) ∙ ap (λ b. (bit_at ray u == 1) && b) (test u inside)
    ∙ ap (λ b. b && before u) (sym (shown_at ray u inside)) in
    turned (before u) (has_square (set_of_bits ray) u) (has_square occupied u) ∙ ap (λ b. b && has_square occupied u) (sym here)
    ∙ sym (has-set_of (λ u. has_square (set_of (lies_between s t)) u && has_square occupied u) u inside))) ∙ open_is occupied s t

-- what is seen along a ray are its squares over empty squares
abbrev pub open_along : List Bool → List Bool → ℕ → ℕ → Bool
open_along ray occupied s t = has_square ray t && is_open occupied s t

pub along_up : (table : List ℕ) → GoesUp table → (occupied : List Bool) (s t : ℕ) → s < 64 → t < 64
    → has_square (seen_up (set_of_bits (slice_index table s)) occupied) t ≡ open_along (set_of_bits (slice_index table s)) occupied s t
unfolding seen_up
along_up table right occupied s t small small' =
    let ray = set_of_bits (slice_index table s) in
    has-set_of (λ t. has_square ray t && not (list_any (stops_before ray occupied t) squares)) t small'
    ∙ where_on (has_square ray t) (not (list_any (stops_before ray occupied t) squares)) (is_open occupied s t) (λ on.
    open_on occupied s t (slice_index table s) (2 ^ t - 1) (λ u. ltb u t) small small' (before_on_ray table right s t small small' (sym (shown_at (slice_index table s) t small') ∙ on)) (λ u _. low_test t u))

pub along_down : (table : List ℕ) → GoesDown table → (occupied : List Bool) (s t : ℕ) → s < 64 → t < 64
    → has_square (seen_down (set_of_bits (slice_index table s)) occupied) t ≡ open_along (set_of_bits (slice_index table s)) occupied s t
unfolding seen_down
along_down table right occupied s t small small' =
    let ray = set_of_bits (slice_index table s) in
    has-set_of (λ t. has_square ray t && not (list_any (stops_behind ray occupied t) squares)) t small'
    ∙ where_on (has_square ray t) (not (list_any (stops_behind ray occupied t) squares)) (is_open occupied s t) (λ on.
    open_on occupied s t (slice_index table s) (2 ^ 64 - 2 ^ (t + 1)) (λ u. ltb t u) small small' (behind_on_ray table right s t small small' (sym (shown_at (slice_index table s) t small') ∙ on)) (λ u inside. high_test t u inside))

and_yes : (a : Bool) → (a && true) ≡ a
and_yes true = refl
and_yes false = refl

and_not : (a : Bool) → (a && false) ≡ false
and_not true = refl
and_not false = refl

shared : (a b c d o : Bool) → (((a && o) || (b && o)) || ((c && o) || (d && o))) ≡ (((a || b) || (c || d)) && o)
shared a b c d true = rw (and_yes a, and_yes b, and_yes c, and_yes d) (sym (and_yes ((a || b) || (c || d))))
shared a b c d false = rw (and_not a, and_not b, and_not c, and_not d) (sym (and_not ((a || b) || (c || d))))

joined_at : (a b : List Bool) (t : ℕ) → t < 64 → has_square (set_joined a b) t ≡ (has_square a t || has_square b t)
unfolding set_joined
joined_at a b t small = has-set_of (λ t. has_square a t || has_square b t) t small

joined_four : (a b c d : List Bool) (t : ℕ) → t < 64
    → has_square (set_joined (set_joined a b) (set_joined c d)) t ≡ ((has_square a t || has_square b t) || (has_square c t || has_square d t))
joined_four a b c d t small = rw (joined_at (set_joined a b) (set_joined c d) t small, joined_at a b t small, joined_at c d t small) refl

length_joined : (a b : List Bool) → length (set_joined a b) ≡ 64
unfolding set_joined
length_joined a b = length-set_of (λ t. has_square a t || has_square b t)

-- what is seen along the four rays of a man are the squares at which it aims
pub four_rays : (k : Kind) (a b c d : List ℕ) → GoesUp a → GoesUp b → GoesDown c → GoesDown d → (occupied : List Bool) (s : ℕ) → s < 64
    → bit_or (bit_or (slice_index a s) (slice_index b s)) (bit_or (slice_index c s) (slice_index d s)) ≡ bits_of_set (set_of (aims_at White k s))
    → set_joined (set_joined (seen_up (set_of_bits (slice_index a s)) occupied) (seen_up (set_of_bits (slice_index b s)) occupied))
    (set_joined (seen_down (set_of_bits (slice_index c s)) occupied) (seen_down (set_of_bits (slice_index d s)) occupied))
    ≡ aimed White k s occupied
unfolding aimed aims_over
four_rays k a b c d up up' down down' occupied s small rays =
    let p = set_of_bits (slice_index a s) in
    let q = set_of_bits (slice_index b s) in
    let r = set_of_bits (slice_index c s) in
    let w = set_of_bits (slice_index d s) in
    let all : set_joined (set_joined p q) (set_joined r w) ≡ set_of (aims_at White k s)
    = ap (λ x. set_joined x (set_joined r w)) (sym (shown_joined (slice_index a s) (slice_index b s)))
    ∙ ap (set_joined (set_of_bits (bit_or (slice_index a s) (slice_index b s)))) (sym (shown_joined (slice_index c s) (slice_index d s)))
    ∙ sym (shown_joined (bit_or (slice_index a s) (slice_index b s)) (bit_or (slice_index c s) (slice_index d s)))
    ∙ ap set_of_bits rays ∙ set_of_bits-bits_of_set (aims_at White k s) in
    same_squares _ _ (length_joined _ _) (length-set_of _) (λ t small'.
    joined_four (seen_up p occupied) (seen_up q occupied) (seen_down r occupied) (seen_down w occupied) t small'
    ∙ rw (along_up a up occupied s t small small', along_up b up' occupied s t small small', along_down c down occupied s t small small', along_down d down' occupied s t small small')
    (shared (has_square p t) (has_square q t) (has_square r t) (has_square w t) (is_open occupied s t))
    ∙ ap (λ b. b && is_open occupied s t) (sym (joined_four p q r w t small') ∙ ap (λ set. has_square set t) all ∙ has-set_of (aims_at White k s) t small')
    ∙ sym (has-set_of (λ t. aims_at White k s t && is_open occupied s t) t small'))
