-- Black can mate from the opening position: 1. f3 e5 2. g4 Qh4.
use Rattle.std.proofs.Common.{◌≡◌, ℕ, [], ◌∷◌, None, refl, arith}
use Rattle.cha_board.specs.declared.men.Color.TheVariants.{Black}
use Rattle.cha_board.specs.Squares.{squares, files_apart, ranks_apart, steps_apart, is_straight, is_diagonal, is_line, is_rank_ahead, aims_at, is_within, lies_between, between}
use Rattle.cha_board.specs.Board.{is_clear, attacks_as, attacked, king_of, in_check}
use Rattle.cha_moves.specs.declared.ends.Standing.TheVariants.{Running}
use Rattle.cha_moves.specs.Step.{Move}
use Rattle.cha_moves.specs.Moves.{is_step, is_double_step, is_pawn_capture, is_en_passant, castles, goes, promotes_well, is_pseudo_legal_as, men_after, rights_after, target_after, after, is_legal_in, moves_from, all_moves, legal}
use Rattle.cha_moves.specs.Ends.{IsMatingLine}
use Rattle.cha_moves.specs.Standings.{standing_with, standing_of}
use Rattle.pgn_games.specs.Games.{opening}

abbrev pub move : ℕ → ℕ → Move
move from to = record { from = from; to = to; promotion = None }

pub black_mates : IsMatingLine opening Black (move 13 21 ∷ move 52 36 ∷ move 14 30 ∷ move 59 31 ∷ [])
unfolding opening legal all_moves moves_from is_legal_in is_pseudo_legal_as goes promotes_well is_step is_double_step is_pawn_capture is_en_passant castles men_after rights_after target_after after in_check king_of attacked attacks_as is_clear between lies_between is_within aims_at is_rank_ahead is_line is_straight is_diagonal steps_apart files_apart ranks_apart squares
black_mates = ((14, omega arith, refl), ((8, omega arith, refl), ((15, omega arith, refl), ((17, omega arith, refl), record { to_move = refl; check = refl; stuck = refl }))))

pub opening_runs : standing_of opening ≡ Running
unfolding standing_with opening legal all_moves moves_from is_legal_in is_pseudo_legal_as goes promotes_well is_step is_double_step is_pawn_capture is_en_passant castles men_after in_check king_of attacked attacks_as is_clear between lies_between is_within aims_at is_rank_ahead is_line is_straight is_diagonal steps_apart files_apart ranks_apart squares
opening_runs = refl
