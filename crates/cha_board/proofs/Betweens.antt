-- The squares between two squares as a number, and what they tell of occupied squares.
use Rattle.std.proofs.Common.{◌≡◌, ◌<◌, ℕ, Bool, true, false, not, cond, ◌==◌, ◌&&◌, ◌||◌, List, [], ◌∷◌, filter, refl, sym, ap, ◌∙◌, arith}
use Rattle.std.specs.List.{list_all, list_any}
use Rattle.std.proofs.lemmas.Bool.{eqb-true}
use Rattle.std.proofs.Math.Nat.{add_comm}
use Rattle.std.proofs.Math.Bool.{and_comm}
use Rattle.cha_board.specs.Squares.{squares, files_apart, ranks_apart, is_straight, is_diagonal, is_within, lies_between, between}
use Rattle.cha_board.specs.SquareSets.{set_of, has_square, set_of_bits, bits_of_set, set_common, has_no_square}
use Rattle.cha_board.proofs.SetLaws.{has-set_of, set_of_bits-bits_of_set}
use Rattle.cha_board.specs.Aims.{is_open}
use Rattle.cha_board.specs.Rays.{rays_between}
use Rattle.cha_board.proofs.Scans.{pair_at, any_alike}

-- the number whose bits are the squares between two squares
unfoldable pub between_bits : ℕ → ℕ → ℕ
between_bits s t = bits_of_set (set_of (lies_between s t))

pub between_shown : (s t : ℕ) → set_of_bits (between_bits s t) ≡ set_of (lies_between s t)
unfolding between_bits
between_shown s t = set_of_bits-bits_of_set (lies_between s t)

files_turned : (s t : ℕ) → files_apart s t ≡ files_apart t s
unfolding files_apart
files_turned s t = omega arith

ranks_turned : (s t : ℕ) → ranks_apart s t ≡ ranks_apart t s
unfolding ranks_apart
ranks_turned s t = omega arith

same_turned : (s t : ℕ) → (s == t) ≡ (t == s)
same_turned s t = grind arith

straight_turned : (s t : ℕ) → is_straight s t ≡ is_straight t s
unfolding is_straight
straight_turned s t = rw (same_turned s t, files_turned s t, ranks_turned s t) refl

diagonal_turned : (s t : ℕ) → is_diagonal s t ≡ is_diagonal t s
unfolding is_diagonal
diagonal_turned s t = rw (same_turned s t, files_turned s t, ranks_turned s t) refl

last_two : (a b c : Bool) → (a && b && c) ≡ (a && c && b)
last_two true b c = and_comm b c
last_two false b c = refl

-- what lies between two squares lies between the second and the first
pub lies_turned : (s t u : ℕ) → lies_between t s u ≡ lies_between s t u
unfolding lies_between is_within
lies_turned s t u =
    rw (
      files_turned t u,
      files_turned u s,
      files_turned t s,
      ranks_turned t u,
      ranks_turned u s,
      ranks_turned t s,
      straight_turned t u,
      straight_turned u s,
      straight_turned t s,
      diagonal_turned t u,
      diagonal_turned u s,
      diagonal_turned t s,
      add_comm (files_apart u t) (files_apart s u),
      add_comm (ranks_apart u t) (ranks_apart s u),
      last_two (is_straight s t) (is_straight u t) (is_straight s u),
      last_two (is_diagonal s t) (is_diagonal u t) (is_diagonal s u),
    ) refl

with_first : (b all some : Bool) → all ≡ not some → (b && all) ≡ not (not b || some)
with_first true all some e = e
with_first false all some e = refl

kept_test : (p q : ℕ → Bool) (x : ℕ) (xs : List ℕ) (b : Bool) → list_all q (filter p xs) ≡ not (list_any (λ x. p x && not (q x)) xs)
    → list_all q (cond b (x ∷ filter p xs) (filter p xs)) ≡ not ((b && not (q x)) || list_any (λ x. p x && not (q x)) xs)
kept_test p q x xs true rest = with_first (q x) (list_all q (filter p xs)) (list_any (λ x. p x && not (q x)) xs) rest
kept_test p q x xs false rest = rest

-- all that are kept pass a test where none that is to be kept fails it
pub all_kept : (p q : ℕ → Bool) (xs : List ℕ) → list_all q (filter p xs) ≡ not (list_any (λ x. p x && not (q x)) xs)
all_kept p q [] = refl
all_kept p q (x ∷ xs) = kept_test p q x xs (p x) (all_kept p q xs)

twice_not : (a b : Bool) → (a && b) ≡ (a && not (not b))
twice_not a true = refl
twice_not a false = refl

-- nothing lies between two squares where the squares between them have none in common with what is occupied
pub open_is : (occupied : List Bool) (s t : ℕ) → has_no_square (set_common (set_of (lies_between s t)) occupied) ≡ is_open occupied s t
unfolding has_no_square set_common is_open between
open_is occupied s t =
    ap not (any_alike (has_square (set_of (λ u. has_square (set_of (lies_between s t)) u && has_square occupied u))) (λ u. lies_between s t u && not (not (has_square occupied u))) (λ u small.
    has-set_of (λ u. has_square (set_of (lies_between s t)) u && has_square occupied u) u small ∙ ap (λ b. b && has_square occupied u) (has-set_of (lies_between s t) u small) ∙ twice_not (lies_between s t u) (has_square occupied u))) ∙ sym (all_kept (lies_between s t) (λ u. not (has_square occupied u)) squares)

-- opposite rays from two squares share the squares between them
rays_test : ℕ → ℕ → Bool
rays_test s t = rays_between s t == between_bits s t

rays_table : list_all (λ s. list_all (λ t. rays_test s t) squares) squares ≡ true
unfolding rays_test rays_between between_bits bits_of_set lies_between is_within is_straight is_diagonal files_apart ranks_apart squares
rays_table = refl

pub rays_shown : (s t : ℕ) → s < 64 → t < 64 → set_of_bits (rays_between s t) ≡ set_of (lies_between s t)
unfolding rays_test
rays_shown s t small small' =
    ap set_of_bits (eqb-true _ _ (pair_at rays_test rays_table s t small small')) ∙ between_shown s t
