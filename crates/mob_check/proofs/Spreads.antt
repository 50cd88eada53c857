-- What men reach by one step or a jump from a set of squares, by tables over all pairs of squares.
use Rattle.std.proofs.Common.{◌≡◌, ℕ, ◌<◌, Bool, true, List, refl, sym, ◌∙◌}
use Rattle.cha_board.specs.declared.men.Color.{Color}
use Rattle.cha_board.specs.declared.men.Color.TheVariants.{White, Black}
use Rattle.cha_board.specs.declared.men.Kind.{Kind}
use Rattle.cha_board.specs.declared.men.Kind.TheVariants.{Pawn, Knight, Bishop, Rook, Queen, King}
use Rattle.cha_board.specs.Squares.{squares, files_apart, ranks_apart, steps_apart, is_straight, is_diagonal, is_line, is_rank_ahead, aims_at}
use Rattle.cha_board.specs.SquareSets.{set_of}
use Rattle.cha_board.specs.Shifts.{is_ahead, is_king_step}
use Rattle.cha_board.proofs.Pulls.{Pulls, up, down, right, left, either, here, pull_up, pull_down, pull_is, pulls_of, pulled, agree, pairs, from_pairs, sides, king_step}
use Rattle.mob_law.specs.Reach.{steps_to}
use Rattle.mob_check.specs.SingleSteps.{is_stepped_to, spread_of}

abbrev pub rook_way : ℕ → ℕ → Bool
rook_way = either (either (up here) (down here)) sides

abbrev pub bishop_way : ℕ → ℕ → Bool
bishop_way = either (up sides) (down sides)

abbrev pub far_sides : ℕ → ℕ → Bool
far_sides = either (right (right here)) (left (left here))

abbrev pub knight_way : ℕ → ℕ → Bool
knight_way = either (either (up (up sides)) (down (down sides))) (either (up far_sides) (down far_sides))

king_table : pairs king_step (steps_to White King) ≡ true
unfolding pairs agree steps_to aims_at steps_apart files_apart ranks_apart squares
king_table = refl

queen_table : pairs king_step (steps_to White Queen) ≡ true
unfolding pairs agree steps_to aims_at is_line is_straight is_diagonal steps_apart files_apart ranks_apart squares
queen_table = refl

rook_table : pairs rook_way (steps_to White Rook) ≡ true
unfolding pairs agree steps_to aims_at is_straight steps_apart files_apart ranks_apart squares
rook_table = refl

bishop_table : pairs bishop_way (steps_to White Bishop) ≡ true
unfolding pairs agree steps_to aims_at is_diagonal steps_apart files_apart ranks_apart squares
bishop_table = refl

knight_table : pairs knight_way (steps_to White Knight) ≡ true
unfolding pairs agree steps_to aims_at steps_apart files_apart ranks_apart squares
knight_table = refl

white_table : pairs (up sides) (steps_to White Pawn) ≡ true
unfolding pairs agree steps_to aims_at is_rank_ahead steps_apart files_apart ranks_apart squares
white_table = refl

black_table : pairs (down sides) (steps_to Black Pawn) ≡ true
unfolding pairs agree steps_to aims_at is_rank_ahead steps_apart files_apart ranks_apart squares
black_table = refl

-- pieces step alike for both sides
any_color : (c : Color) (u t : ℕ) → (steps_to c King u t ≡ steps_to White King u t) × (steps_to c Queen u t ≡ steps_to White Queen u t) × (steps_to c Rook u t ≡ steps_to White Rook u t)
    × (steps_to c Bishop u t ≡ steps_to White Bishop u t) × (steps_to c Knight u t ≡ steps_to White Knight u t)
unfolding steps_to aims_at
any_color c u t = (refl, refl, refl, refl, refl)

spreads : (c : Color) (k : Kind) (a x : List Bool) (way : ℕ → ℕ → Bool) → ((u t : ℕ) → u < 64 → t < 64 → way u t ≡ steps_to c k u t) → Pulls a x way → x ≡ spread_of c k a
unfolding is_stepped_to
spreads c k a x way same p = pulled a x (steps_to c k) (pull_is a x way (steps_to c k) same p)

pub king_spreads : (c : Color) (a x : List Bool) → x ≡ set_of (is_king_step a) → (x ≡ spread_of c King a) × (x ≡ spread_of c Queen a)
unfolding is_king_step
king_spreads c a x is =
    let p = pulls_of a x king_step is in (
      spreads c King a x king_step (λ u t small small'. from_pairs king_step (steps_to White King) king_table u t small small' ∙ sym (any_color c u t).0) p,
      spreads c Queen a x king_step (λ u t small small'. from_pairs king_step (steps_to White Queen) queen_table u t small small' ∙ sym (any_color c u t).1) p,
    )

pub rook_spreads : (c : Color) (a x : List Bool) → Pulls a x rook_way → x ≡ spread_of c Rook a
rook_spreads c a x p = spreads c Rook a x rook_way (λ u t small small'. from_pairs rook_way (steps_to White Rook) rook_table u t small small' ∙ sym (any_color c u t).2) p

pub bishop_spreads : (c : Color) (a x : List Bool) → Pulls a x bishop_way → x ≡ spread_of c Bishop a
bishop_spreads c a x p = spreads c Bishop a x bishop_way (λ u t small small'. from_pairs bishop_way (steps_to White Bishop) bishop_table u t small small' ∙ sym (any_color c u t).3) p

pub knight_spreads : (c : Color) (a x : List Bool) → Pulls a x knight_way → x ≡ spread_of c Knight a
knight_spreads c a x p = spreads c Knight a x knight_way (λ u t small small'. from_pairs knight_way (steps_to White Knight) knight_table u t small small' ∙ sym (any_color c u t).4) p

white_spreads : (a x : List Bool) → Pulls a x (up sides) → x ≡ spread_of White Pawn a
white_spreads a x p = spreads White Pawn a x (up sides) (from_pairs (up sides) (steps_to White Pawn) white_table) p

black_spreads : (a x : List Bool) → Pulls a x (down sides) → x ≡ spread_of Black Pawn a
black_spreads a x p = spreads Black Pawn a x (down sides) (from_pairs (down sides) (steps_to Black Pawn) black_table) p

-- the squares ahead of those beside a set are those onto which pawns on it capture
pub pawn_spreads : (c : Color) (a x y : List Bool) → Pulls a x sides → y ≡ set_of (is_ahead c x) → y ≡ spread_of c Pawn a
pawn_spreads White a x y p is = white_spreads a y (pull_up a x y sides p is)
pawn_spreads Black a x y p is = black_spreads a y (pull_down a x y sides p is)
