-- The opening position is valid.
use Rattle.std.proofs.Common.{◌≡◌, true, not, None, map, codes, refl}
use Rattle.cha_board.specs.declared.men.Color.{Color}
use Rattle.cha_board.specs.declared.men.Color.TheVariants.{White, Black}
use Rattle.cha_board.specs.declared.opening.TheConstants.{OPENING_MEN}
use Rattle.cha_board.specs.declared.position.Rights.{Rights}
use Rattle.cha_board.specs.declared.castling.Wing.{Wing}
use Rattle.cha_board.specs.declared.castling.Wing.TheVariants.{Kingside, Queenside}
use Rattle.cha_board.specs.Letters.{letter_of, letter_or_dot}
use Rattle.cha_board.specs.Squares.{squares, files_apart, ranks_apart, steps_apart, is_straight, is_diagonal, is_line, is_rank_ahead, aims_at, is_within, lies_between, between}
use Rattle.cha_board.specs.Board.{IsValid, is_clear, attacks_as, attacked, king_of, in_check, has_one_king, is_pawn_at_end, has_pawn_at_end, rights_where, are_at_home, right_fits}

abbrev pub all_rights : Rights
all_rights = rights_where (λ c w. true)

one_king_each : (c : Color) → has_one_king OPENING_MEN c ≡ true
unfolding has_one_king
one_king_each White = refl
one_king_each Black = refl

pawns_inside : not (has_pawn_at_end OPENING_MEN) ≡ true
unfolding has_pawn_at_end is_pawn_at_end squares
pawns_inside = refl

not_attacked : not (in_check OPENING_MEN Black) ≡ true
unfolding in_check king_of attacked attacks_as is_clear between lies_between is_within aims_at is_rank_ahead is_line is_straight is_diagonal steps_apart files_apart ranks_apart squares
not_attacked = refl

at_home_each : (c : Color) (w : Wing) → right_fits OPENING_MEN all_rights c w ≡ true
unfolding right_fits are_at_home
at_home_each White Kingside = refl
at_home_each White Queenside = refl
at_home_each Black Kingside = refl
at_home_each Black Queenside = refl

pub opening_is_valid : IsValid (record { men = OPENING_MEN; side = White; rights = all_rights; target = None })
opening_is_valid = record {
  size = refl;
  kings = one_king_each;
  pawns = pawns_inside;
  opponent = not_attacked;
  rights = at_home_each;
  target = refl;
}

pub opening_letters : map letter_or_dot OPENING_MEN ≡ codes "RNBQKBNRPPPPPPPP................................pppppppprnbqkbnr"
unfolding letter_of
opening_letters = refl
