-- Worked positions: which lists of moves mate.
use Rattle.std.proofs.Common.{◌≡◌, false, List, [], ◌∷◌, Option, Some, None, refl}
use Rattle.cha_board.specs.declared.men.Color.{Color}
use Rattle.cha_board.specs.declared.men.Color.TheVariants.{White, Black}
use Rattle.cha_board.specs.declared.men.Kind.{Kind}
use Rattle.cha_board.specs.declared.men.Kind.TheVariants.{Pawn, Queen, Rook, King}
use Rattle.cha_board.specs.Squares.{squares, files_apart, ranks_apart, steps_apart, is_straight, is_diagonal, is_line, is_rank_ahead, aims_at, is_within, lies_between, between}
use Rattle.cha_board.specs.Board.{Board, is_clear, attacks_as, attacked, king_of, in_check}
use Rattle.cha_moves.specs.Step.{Move}
use Rattle.cha_moves.specs.Moves.{is_step, is_double_step, is_pawn_capture, is_en_passant, castles, goes, promotes_well, is_pseudo_legal_as, men_after, rights_after, target_after, after, is_legal_in, moves_from, all_moves, legal}
use Rattle.cha_moves.specs.MateLines.{is_mated, mate_lines}
use Rattle.cha_moves.proofs.PlacedMen.{Placed, at, men_of}

abbrev position_of : List Placed → Color → Board
position_of men side = record {
  men = men_of men;
  side = side;
  rights = record { white_king = false; white_queen = false; black_king = false; black_queen = false };
  target = None;
}

-- 7k/4P3/6K1/8/8/8/8/8 w - -: the pawn mates as a queen, and then as a rook
promoting : Board
promoting = position_of (at 63 Black King ∷ at 52 White Pawn ∷ at 46 White King ∷ []) White

promotes : Option Kind → List Move
promotes k = record { from = 52; to = 60; promotion = k } ∷ []

by_promotion : mate_lines 1 promoting White ≡ promotes (Some Queen) ∷ promotes (Some Rook) ∷ []
unfolding promoting promotes mate_lines is_mated legal all_moves moves_from is_legal_in is_pseudo_legal_as goes promotes_well is_step is_double_step is_pawn_capture is_en_passant castles after men_after rights_after target_after in_check king_of attacked attacks_as is_clear between lies_between is_within aims_at is_rank_ahead is_line is_straight is_diagonal steps_apart files_apart ranks_apart squares
by_promotion = refl

-- 7k/5Q2/6K1/8/8/8/8/8 b - -: a stalemate is no mate
stalemate : Board
stalemate = position_of (at 63 Black King ∷ at 53 White Queen ∷ at 46 White King ∷ []) Black

no_mate : mate_lines 0 stalemate White ≡ []
unfolding stalemate mate_lines is_mated legal all_moves moves_from is_legal_in is_pseudo_legal_as goes promotes_well is_step is_double_step is_pawn_capture is_en_passant castles men_after in_check king_of attacked attacks_as is_clear between lies_between is_within aims_at is_rank_ahead is_line is_straight is_diagonal steps_apart files_apart ranks_apart squares
no_mate = refl
