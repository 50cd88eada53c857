-- Worked examples of the definitions.
use Rattle.std.proofs.Common.{◌≡◌, true, false, List, [], ◌∷◌, filter, set, replicate, Option, Some, None, refl}
use Rattle.cha_board.specs.declared.men.Color.TheVariants.{White, Black}
use Rattle.cha_board.specs.declared.men.Kind.TheVariants.{Pawn, Knight, Rook, King}
use Rattle.cha_board.specs.declared.men.Man.{Man}
use Rattle.cha_board.specs.Squares.{squares, files_apart, ranks_apart, steps_apart, is_straight, is_diagonal, is_line, is_rank_ahead, aims_at, is_within, lies_between, between}
use Rattle.cha_board.specs.Board.{is_clear, attacks_as, attacked, king_of, in_check}
use Rattle.cha_board.specs.SquareSets.{set_of_bits, bits_of_set, set_with, is_subset}

-- between a1 and h8: b2, c3, d4, e5, f6, g7
long_diagonal : between 0 63 ≡ 9 ∷ 18 ∷ 27 ∷ 36 ∷ 45 ∷ 54 ∷ []
unfolding between lies_between is_within is_straight is_diagonal files_apart ranks_apart squares
long_diagonal = refl

-- a1 and h7 are of no line
no_line : between 0 55 ≡ []
unfolding between lies_between is_within is_straight is_diagonal files_apart ranks_apart squares
no_line = refl

-- a knight on a1 aims at c2 and b3
knight_in_the_corner : filter (aims_at White Knight 0) squares ≡ 10 ∷ 17 ∷ []
unfolding aims_at files_apart ranks_apart squares
knight_in_the_corner = refl

-- a black pawn on e4 aims at d3 and f3
black_pawn : filter (aims_at Black Pawn 28) squares ≡ 19 ∷ 21 ∷ []
unfolding aims_at is_rank_ahead files_apart squares
black_pawn = refl

-- a white rook on a1 behind a white king on a3, and a black king on h1
small : List (Option Man)
small = set (set (set (replicate 64 None) 0 (Some (record { color = White; kind = Rook }))) 16 (Some (record { color = White; kind = King }))) 7 (Some (record { color = Black; kind = King }))

-- White attacks b1 to h1, a2, b2, a3 (which its rook guards), b3, and a4 and b4
white_attacks : filter (attacked small White) squares ≡ 1 ∷ 2 ∷ 3 ∷ 4 ∷ 5 ∷ 6 ∷ 7 ∷ 8 ∷ 9 ∷ 16 ∷ 17 ∷ 24 ∷ 25 ∷ []
unfolding small attacked attacks_as is_clear between lies_between is_within aims_at is_rank_ahead is_line is_straight is_diagonal steps_apart files_apart ranks_apart squares
white_attacks = refl

black_in_check : in_check small Black ≡ true
unfolding small in_check king_of attacked attacks_as is_clear between lies_between is_within aims_at is_rank_ahead is_line is_straight is_diagonal steps_apart files_apart ranks_apart squares
black_in_check = refl

white_not_in_check : in_check small White ≡ false
unfolding small in_check king_of attacked attacks_as is_clear between lies_between is_within aims_at is_rank_ahead is_line is_straight is_diagonal steps_apart files_apart ranks_apart squares
white_not_in_check = refl

-- a1 and h1 with a2
three_squares : bits_of_set (set_with (set_of_bits 0x81) 8) ≡ 0x181
unfolding bits_of_set set_with squares
three_squares = refl

one_inside : is_subset (set_of_bits 0x80) (set_of_bits 0x81) ≡ true
unfolding is_subset squares
one_inside = refl

two_not_inside : is_subset (set_of_bits 0x81) (set_of_bits 0x80) ≡ false
unfolding is_subset squares
two_not_inside = refl
