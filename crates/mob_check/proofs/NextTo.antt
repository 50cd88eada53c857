-- The squares next to a square.
use Rattle.std.proofs.Common.{◌≡◌, ℕ, ◌<◌, ◌==◌, Bool, not, ◌&&◌, ◌||◌, List, refl}
use Rattle.cha_board.specs.Squares.{steps_apart}
use Rattle.cha_board.specs.SquareSets.{set_of, has_square, set_joined, set_minus}
use Rattle.cha_board.proofs.SetLaws.{has-set_of, same_set}
use Rattle.mob_check.specs.Nearness.{is_next_to, next_to}
use Rattle.mob_check.specs.MatesInReach.{is_left, left_squares}

pub near_has : (s n : ℕ) → n < 64 → has_square (next_to s) n ≡ (steps_apart s n == 1)
unfolding next_to is_next_to
near_has s n small = has-set_of (λ n. steps_apart s n == 1) n small

-- the squares that are left to a king are those next to it that are neither struck nor next to the other king
pub left_is : (struck : List Bool) (ks wk : ℕ) → set_minus (next_to ks) (set_joined struck (next_to wk)) ≡ left_squares struck ks wk
unfolding set_minus set_joined is_left
left_is struck ks wk =
    let kept = λ (m : ℕ). has_square struck m || has_square (next_to wk) m in
    same_set (λ n. has_square (next_to ks) n && not (has_square (set_of kept) n)) (is_left struck ks wk) (λ n small.
    rw (has-set_of kept n small, near_has ks n small, near_has wk n small) refl)
