-- Sets made of others by moves of one square: from which squares of the first set each of their squares comes.
use Rattle.std.proofs.Common.{◌≡◌, ℕ, ◌+◌, ◌-◌, ◌<◌, Bool, true, false, not, ◌&&◌, ◌||◌, ◌==◌, List, length, refl, sym, ap, subst, ◌∙◌, arith, inl, inr}
use Rattle.std.specs.List.{list_all, list_any}
use Rattle.std.specs.Int.{bit_at}
use Rattle.std.proofs.lemmas.Bool.{and_parts, and_from, and_right, or_cases, or_left, or_right, cases_Bool, not-true, eq-eqb, eqb-true, eqb-false}
use Rattle.cha_board.specs.Squares.{squares, file_of, rank_of, files_apart, ranks_apart, steps_apart}
use Rattle.cha_board.specs.SquareSets.{set_of, has_square, set_of_bits, set_joined}
use Rattle.cha_board.specs.Shifts.{is_above, is_below, is_right_of, is_left_of, is_king_step}
use Rattle.cha_board.proofs.SetLaws.{length-set_of, has-set_of, same_squares}
use Rattle.cha_board.proofs.Scans.{any_square_at, no_square, pair_at}
use Rattle.cha_board.proofs.Contents.{some_square, same_test}

-- a square of the board is in the set where a square of the first set leads to it
pub record Pulls (a x : List Bool) (leads : ℕ → ℕ → Bool) : Type 0 where
  pub width : length x ≡ 64
  pub same : (t : ℕ) → t < 64 → has_square x t ≡ list_any (λ u. has_square a u && leads u t) squares

abbrev pub here : ℕ → ℕ → Bool
here u t = u == t

abbrev pub up : (ℕ → ℕ → Bool) → ℕ → ℕ → Bool
up leads u t = not (rank_of t == 0) && leads u (t - 8)

abbrev pub down : (ℕ → ℕ → Bool) → ℕ → ℕ → Bool
down leads u t = not (rank_of t == 7) && leads u (t + 8)

abbrev pub right : (ℕ → ℕ → Bool) → ℕ → ℕ → Bool
right leads u t = not (file_of t == 0) && leads u (t - 1)

abbrev pub left : (ℕ → ℕ → Bool) → ℕ → ℕ → Bool
left leads u t = not (file_of t == 7) && leads u (t + 1)

abbrev pub either : (ℕ → ℕ → Bool) → (ℕ → ℕ → Bool) → ℕ → ℕ → Bool
either leads others u t = leads u t || others u t

-- the set itself
pub pull_here : (a : List Bool) → length a ≡ 64 → Pulls a a here
pull_here a long = record {
  width = long;
  same = λ t small.
      same_test (has_square a t) (list_any (λ u. has_square a u && (u == t)) squares)
      (λ h. any_square_at (λ u. has_square a u && (u == t)) t small (and_from (has_square a t) (t == t) h (eq-eqb t t refl)))
      (λ h. let k = some_square (λ u. has_square a u && (u == t)) h in
      let both = and_parts (has_square a k.0) (k.0 == t) k.2 in
      let P : ℕ → Type 0 = λ x. has_square a x ≡ true in
      subst P (eqb-true k.0 t both.1) both.0);
}

pull_moved : (a x y : List Bool) (leads : ℕ → ℕ → Bool) (inside : ℕ → Bool) (from : ℕ → ℕ) → ((t : ℕ) → t < 64 → inside t ≡ true → from t < 64)
    → Pulls a x leads → y ≡ set_of (λ t. inside t && has_square x (from t)) → Pulls a y (λ u t. inside t && leads u (from t))
pull_moved a x y leads inside from stays pulls is =
    let P : List Bool → Type 0 = λ z. Pulls a z (λ u t. inside t && leads u (from t)) in
    subst P (sym is) (record {
      width = length-set_of (λ t. inside t && has_square x (from t));
      same = λ t small.
          has-set_of (λ t. inside t && has_square x (from t)) t small ∙
          elim (cases_Bool (inside t)) [
            | inl e ↦ ap (λ b. b && has_square x (from t)) e ∙ pulls.same (from t) (stays t small e) ∙ sym (ap (λ b. list_any (λ u. has_square a u && (b && leads u (from t))) squares) e)
            | inr e ↦ ap (λ b. b && has_square x (from t)) e
                ∙ sym (ap (λ b. list_any (λ u. has_square a u && (b && leads u (from t))) squares) e ∙ no_square (λ u. has_square a u && false) (λ u small'. and_right (has_square a u) false refl))
          ];
    })

pub pull_up : (a x y : List Bool) (leads : ℕ → ℕ → Bool) → Pulls a x leads → y ≡ set_of (is_above x) → Pulls a y (up leads)
pull_up a x y leads pulls is = pull_moved a x y leads (λ t. not (rank_of t == 0)) (λ t. t - 8) (λ t small h. omega (arith, small)) pulls is

pub pull_down : (a x y : List Bool) (leads : ℕ → ℕ → Bool) → Pulls a x leads → y ≡ set_of (is_below x) → Pulls a y (down leads)
pull_down a x y leads pulls is =
    pull_moved a x y leads (λ t. not (rank_of t == 7)) (λ t. t + 8) (λ t small h. (let f = eqb-false (rank_of t) 7 (not-true (rank_of t == 7) h) in omega (arith, small, f))) pulls is

pub pull_right : (a x y : List Bool) (leads : ℕ → ℕ → Bool) → Pulls a x leads → y ≡ set_of (is_right_of x) → Pulls a y (right leads)
pull_right a x y leads pulls is = pull_moved a x y leads (λ t. not (file_of t == 0)) (λ t. t - 1) (λ t small h. omega (arith, small)) pulls is

pub pull_left : (a x y : List Bool) (leads : ℕ → ℕ → Bool) → Pulls a x leads → y ≡ set_of (is_left_of x) → Pulls a y (left leads)
pull_left a x y leads pulls is =
    pull_moved a x y leads (λ t. not (file_of t == 7)) (λ t. t + 1) (λ t small h. (let f = eqb-false (file_of t) 7 (not-true (file_of t == 7) h) in omega (arith, small, f))) pulls is

pub pull_joined : (a x y z : List Bool) (leads others : ℕ → ℕ → Bool) → Pulls a x leads → Pulls a y others → z ≡ set_joined x y → Pulls a z (either leads others)
unfolding set_joined
pull_joined a x y z leads others p q is =
    let P : List Bool → Type 0 = λ w. Pulls a w (either leads others) in
    let first = λ (t u : ℕ). has_square a u && leads u t in
    let second = λ (t u : ℕ). has_square a u && others u t in
    let both = λ (t u : ℕ). has_square a u && (leads u t || others u t) in
    subst P (sym is) (record {
      width = length-set_of (λ s. has_square x s || has_square y s);
      same = λ t small.
          has-set_of (λ s. has_square x s || has_square y s) t small
          ∙ ap (λ b. b || has_square y t) (p.same t small) ∙ ap (λ b. list_any (first t) squares || b) (q.same t small)
          ∙ same_test (list_any (first t) squares || list_any (second t) squares) (list_any (both t) squares)
          (λ h. elim (or_cases (list_any (first t) squares) (list_any (second t) squares) h) [
            | inl e ↦ (let k = some_square (first t) e in let two = and_parts (has_square a k.0) (leads k.0 t) k.2 in
                any_square_at (both t) k.0 k.1 (and_from (has_square a k.0) (leads k.0 t || others k.0 t) two.0 (or_left (leads k.0 t) (others k.0 t) two.1)))
            | inr e ↦ (let k = some_square (second t) e in let two = and_parts (has_square a k.0) (others k.0 t) k.2 in
                any_square_at (both t) k.0 k.1 (and_from (has_square a k.0) (leads k.0 t || others k.0 t) two.0 (or_right (leads k.0 t) (others k.0 t) two.1)))
          ])
          (λ h. let k = some_square (both t) h in
          let two = and_parts (has_square a k.0) (leads k.0 t || others k.0 t) k.2 in
          elim (or_cases (leads k.0 t) (others k.0 t) two.1) [
            | inl e ↦ or_left (list_any (first t) squares) (list_any (second t) squares) (any_square_at (first t) k.0 k.1 (and_from (has_square a k.0) (leads k.0 t) two.0 e))
            | inr e ↦ or_right (list_any (first t) squares) (list_any (second t) squares) (any_square_at (second t) k.0 k.1 (and_from (has_square a k.0) (others k.0 t) two.0 e))
          ]);
    })

-- a set whose squares all pass a test besides
pub pull_kept : (a x y : List Bool) (leads : ℕ → ℕ → Bool) (kept : ℕ → Bool) → Pulls a x leads → y ≡ set_of (λ s. has_square x s && kept s) → Pulls a y (λ u t. leads u t && kept t)
pull_kept a x y leads kept p is =
    let P : List Bool → Type 0 = λ w. Pulls a w (λ u t. leads u t && kept t) in
    let first = λ (t u : ℕ). has_square a u && leads u t in
    let both = λ (t u : ℕ). has_square a u && (leads u t && kept t) in
    subst P (sym is) (record {
      width = length-set_of (λ s. has_square x s && kept s);
      same = λ t small.
          has-set_of (λ s. has_square x s && kept s) t small ∙ ap (λ b. b && kept t) (p.same t small)
          ∙ same_test (list_any (first t) squares && kept t) (list_any (both t) squares)
          (λ h. let e = and_parts (list_any (first t) squares) (kept t) h in
          let k = some_square (first t) e.0 in
          let two = and_parts (has_square a k.0) (leads k.0 t) k.2 in
          any_square_at (both t) k.0 k.1 (and_from (has_square a k.0) (leads k.0 t && kept t) two.0 (and_from (leads k.0 t) (kept t) two.1 e.1)))
          (λ h. let k = some_square (both t) h in
          let two = and_parts (has_square a k.0) (leads k.0 t && kept t) k.2 in
          let e = and_parts (leads k.0 t) (kept t) two.1 in
          and_from (list_any (first t) squares) (kept t) (any_square_at (first t) k.0 k.1 (and_from (has_square a k.0) (leads k.0 t) two.0 e.0)) e.1);
    })

-- the same by a relation that agrees on the board
pub pull_is : (a x : List Bool) (leads others : ℕ → ℕ → Bool) → ((u t : ℕ) → u < 64 → t < 64 → leads u t ≡ others u t) → Pulls a x leads → Pulls a x others
pull_is a x leads others same p = record {
  width = p.width;
  same = λ t small.
      p.same t small ∙ same_test (list_any (λ u. has_square a u && leads u t) squares) (list_any (λ u. has_square a u && others u t) squares)
      (λ h. let k = some_square (λ u. has_square a u && leads u t) h in
      let two = and_parts (has_square a k.0) (leads k.0 t) k.2 in
      any_square_at (λ u. has_square a u && others u t) k.0 k.1 (and_from (has_square a k.0) (others k.0 t) two.0 (sym (same k.0 t k.1 small) ∙ two.1)))
      (λ h. let k = some_square (λ u. has_square a u && others u t) h in
      let two = and_parts (has_square a k.0) (others k.0 t) k.2 in
      any_square_at (λ u. has_square a u && leads u t) k.0 k.1 (and_from (has_square a k.0) (leads k.0 t) two.0 (same k.0 t k.1 small ∙ two.1)));
}

-- a set that is so
pub pulls_of : (a x : List Bool) (leads : ℕ → ℕ → Bool) → x ≡ set_of (λ t. list_any (λ u. has_square a u && leads u t) squares) → Pulls a x leads
pulls_of a x leads is =
    let test = λ (t : ℕ). list_any (λ u. has_square a u && leads u t) squares in
    record { width = ap (λ (y : List Bool). length y) is ∙ length-set_of test; same = λ t small. ap (λ y. has_square y t) is ∙ has-set_of test t small }

-- and so as a set
pub pulled : (a x : List Bool) (leads : ℕ → ℕ → Bool) → Pulls a x leads → x ≡ set_of (λ t. list_any (λ u. has_square a u && leads u t) squares)
pulled a x leads p =
    let test = λ (t : ℕ). list_any (λ u. has_square a u && leads u t) squares in
    same_squares x (set_of test) p.width (length-set_of test) (λ t small. p.same t small ∙ sym (has-set_of test t small))

unfoldable pub agree : Bool → Bool → Bool
agree true b = b
agree false b = not b

pub agreed : (a b : Bool) → agree a b ≡ true → a ≡ b
unfolding agree
agreed true true h = refl
agreed false false h = refl
agreed true false h = cc
agreed false true h = cc

-- tests that agree on all pairs of squares
unfoldable pub pairs : (ℕ → ℕ → Bool) → (ℕ → ℕ → Bool) → Bool
pairs f g = list_all (λ u. list_all (λ t. agree (f u t) (g u t)) squares) squares

pub from_pairs : (f g : ℕ → ℕ → Bool) → pairs f g ≡ true → (u t : ℕ) → u < 64 → t < 64 → f u t ≡ g u t
unfolding pairs
from_pairs f g table u t small small' =
    agreed (f u t) (g u t) (pair_at (λ u t. agree (f u t) (g u t)) table u t small small')

abbrev pub sides : ℕ → ℕ → Bool
sides = either (right here) (left here)

abbrev pub king_way : ℕ → ℕ → Bool
king_way = either (either sides (up (either sides here))) (down (either sides here))

pub pull_sides : (a e w s : List Bool) → length a ≡ 64 → e ≡ set_of (is_right_of a) → w ≡ set_of (is_left_of a) → s ≡ set_joined e w → Pulls a s sides
pull_sides a e w s long east west both =
    pull_joined a e w s (right here) (left here) (pull_right a a e here (pull_here a long) east) (pull_left a a w here (pull_here a long) west) both

pub width_of : (a : List Bool) (n : ℕ) → a ≡ set_of_bits n → length a ≡ 64
width_of a n is = ap (λ (x : List Bool). length x) is ∙ length-set_of (λ (s : ℕ). bit_at n s == 1)

-- two squares are a step of a king apart
abbrev pub king_step : ℕ → ℕ → Bool
king_step u t = steps_apart u t == 1

king_table : pairs king_way king_step ≡ true
unfolding pairs agree steps_apart files_apart ranks_apart squares
king_table = refl

pub king_stepped : (a x : List Bool) → Pulls a x king_way → x ≡ set_of (is_king_step a)
unfolding is_king_step
king_stepped a x p = pulled a x king_step (pull_is a x king_way king_step (from_pairs king_way king_step king_table) p)
