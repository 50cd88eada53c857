-- Squares next to each other, and what lies between squares, by tables over all pairs of squares.
use Rattle.std.proofs.Common.{◌≡◌, ℕ, ◌<◌, ◌≢◌, Bool, true, false, not, ◌&&◌, ◌||◌, ◌==◌, List, [], ◌∷◌, refl}
use Rattle.std.specs.List.{list_all}
use Rattle.std.proofs.lemmas.Bool.{and_parts, both_ways, eq-eqb, not-true}
use Rattle.cha_board.specs.declared.men.Color.{Color}
use Rattle.cha_board.specs.declared.men.Color.TheVariants.{White, Black}
use Rattle.cha_board.specs.declared.men.Kind.{Kind}
use Rattle.cha_board.specs.declared.men.Kind.TheVariants.{Pawn, Knight, Bishop, Rook, Queen, King}
use Rattle.cha_board.specs.declared.castling.Wing.{Wing}
use Rattle.cha_board.specs.declared.castling.Wing.TheVariants.{Kingside, Queenside}
use Rattle.cha_board.specs.Board.{home_of, goal_of}
use Rattle.cha_board.specs.Squares.{squares, files_apart, ranks_apart, steps_apart, is_straight, is_diagonal, is_line, aims_at, is_within, lies_between, between}
use Rattle.cha_board.proofs.Identity.{if_at}
use Rattle.cha_board.proofs.Scans.{pair_at}
use Rattle.cha_moves.proofs.Near.{king_aims}
use Rattle.cha_moves.proofs.Goings.{pawn_near}
use Rattle.mob_law.specs.Reach.{is_leaper}

is_none_of : List ℕ → Bool
is_none_of [] = true
is_none_of (x ∷ xs) = false

none_of : (xs : List ℕ) → is_none_of xs ≡ true → xs ≡ []
unfolding is_none_of
none_of [] h = refl
none_of (x ∷ xs) h = cc

-- a step of one square: the squares differ, it can be gone back, and nothing lies between
near_test : ℕ → ℕ → Bool
near_test s t = not (steps_apart s t == 1) || (not (s == t) && (steps_apart t s == 1) && is_none_of (between s t))

near_table : list_all (λ s. list_all (near_test s) squares) squares ≡ true
unfolding near_test is_none_of between lies_between is_within is_straight is_diagonal is_line steps_apart files_apart ranks_apart squares
near_table = refl

-- a knight's jump has nothing between its squares
jump_test : ℕ → ℕ → Bool
jump_test s t = not (aims_at White Knight s t) || is_none_of (between s t)

jump_table : list_all (λ s. list_all (jump_test s) squares) squares ≡ true
unfolding jump_test aims_at is_none_of between lies_between is_within is_straight is_diagonal is_line steps_apart files_apart ranks_apart squares
jump_table = refl

-- what a step of one square is
pub record Near (s t : ℕ) : Type 0 where
  pub other : s ≢ t
  pub back : (steps_apart t s == 1) ≡ true
  pub clear : between s t ≡ []

pub near : (s t : ℕ) → s < 64 → t < 64 → (steps_apart s t == 1) ≡ true → Near s t
unfolding near_test
near s t small small' step =
    let h = if_at (steps_apart s t == 1) (not (s == t) && (steps_apart t s == 1) && is_none_of (between s t)) (pair_at near_test near_table s t small small') step in
    let a = and_parts (not (s == t) && (steps_apart t s == 1)) (is_none_of (between s t)) h in
    let b = and_parts (not (s == t)) (steps_apart t s == 1) a.0 in
    record {
      other = λ e. both_ways (s == t) (not-true (s == t) b.0) (eq-eqb s t e);
      back = b.1;
      clear = none_of (between s t) a.1;
    }

-- a king aims at what is one step away
pub king_aims_from : (c : Color) (s t : ℕ) → (steps_apart s t == 1) ≡ true → aims_at c King s t ≡ true
unfolding aims_at
king_aims_from c s t h = h

-- a knight jumps over nothing
jump_clear : (c : Color) (s t : ℕ) → s < 64 → t < 64 → aims_at c Knight s t ≡ true → between s t ≡ []
unfolding jump_test aims_at
jump_clear c s t small small' aims = none_of (between s t) (if_at (aims_at White Knight s t) (is_none_of (between s t)) (pair_at jump_test jump_table s t small small') aims)

-- whatever attacks by a step or a jump, or from a square next to its own, has nothing in its way
pub leap_clear : (c : Color) (k : Kind) (s t : ℕ) → s < 64 → t < 64 → aims_at c k s t ≡ true → (is_leaper k || (steps_apart s t == 1)) ≡ true → between s t ≡ []
leap_clear c Pawn s t small small' aims leap = (near s t small small' (pawn_near c s t aims)).clear
leap_clear c Knight s t small small' aims leap = jump_clear c s t small small' aims
leap_clear c King s t small small' aims leap = (near s t small small' (king_aims c s t aims)).clear
leap_clear c Bishop s t small small' aims leap = (near s t small small' leap).clear
leap_clear c Rook s t small small' aims leap = (near s t small small' leap).clear
leap_clear c Queen s t small small' aims leap = (near s t small small' leap).clear

-- a castling takes the king two squares away, and so is no step
pub two_far : (c : Color) (w : Wing) → (steps_apart (home_of c) (goal_of c w) == 1) ≡ false
unfolding steps_apart files_apart ranks_apart
two_far White Kingside = refl
two_far White Queenside = refl
two_far Black Kingside = refl
two_far Black Queenside = refl
