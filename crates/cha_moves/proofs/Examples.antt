-- Known positions, computed: the definitions give what the Laws of Chess and published counts say.
use Rattle.std.proofs.Common.{◌≡◌, true, false, [], ◌∷◌, length, Option, Some, None, refl}
use Rattle.cha_board.specs.declared.men.Color.TheVariants.{White, Black}
use Rattle.cha_board.specs.declared.men.Kind.TheVariants.{Pawn, Knight, Bishop, Rook, Queen, King}
use Rattle.cha_board.specs.declared.men.Man.{Man}
use Rattle.cha_board.specs.Squares.{squares, files_apart, ranks_apart, steps_apart, is_straight, is_diagonal, is_line, is_rank_ahead, aims_at, is_within, lies_between, between}
use Rattle.cha_board.specs.Board.{Board, man_at, is_clear, attacks_as, attacked, king_of, in_check}
use Rattle.cha_moves.specs.Moves.{is_step, is_double_step, is_pawn_capture, is_en_passant, castles, goes, promotes_well, is_pseudo_legal_as, men_after, rights_after, target_after, after, is_legal_in, moves_from, all_moves, legal}
use Rattle.cha_moves.specs.Ends.{IsMated, IsStalemated}
use Rattle.cha_board.specs.Letters.{square_text}
use Rattle.cha_moves.specs.Texts.{promotion_text, move_bytes}

abbrev __ : Option Man
__ = None

abbrev wP : Option Man
wP = Some (record { color = White; kind = Pawn })

abbrev wN : Option Man
wN = Some (record { color = White; kind = Knight })

abbrev wB : Option Man
wB = Some (record { color = White; kind = Bishop })

abbrev wR : Option Man
wR = Some (record { color = White; kind = Rook })

abbrev wQ : Option Man
wQ = Some (record { color = White; kind = Queen })

abbrev wK : Option Man
wK = Some (record { color = White; kind = King })

abbrev bP : Option Man
bP = Some (record { color = Black; kind = Pawn })

abbrev bN : Option Man
bN = Some (record { color = Black; kind = Knight })

abbrev bB : Option Man
bB = Some (record { color = Black; kind = Bishop })

abbrev bR : Option Man
bR = Some (record { color = Black; kind = Rook })

abbrev bQ : Option Man
bQ = Some (record { color = Black; kind = Queen })

abbrev bK : Option Man
bK = Some (record { color = Black; kind = King })

-- the opening: rnbqkbnr/pppppppp/8/8/8/8/PPPPPPPP/RNBQKBNR w KQkq -
abbrev opening : Board
opening = record {
  men =
      wR ∷ wN ∷ wB ∷ wQ ∷ wK ∷ wB ∷ wN ∷ wR ∷
      wP ∷ wP ∷ wP ∷ wP ∷ wP ∷ wP ∷ wP ∷ wP ∷
      __ ∷ __ ∷ __ ∷ __ ∷ __ ∷ __ ∷ __ ∷ __ ∷
      __ ∷ __ ∷ __ ∷ __ ∷ __ ∷ __ ∷ __ ∷ __ ∷
      __ ∷ __ ∷ __ ∷ __ ∷ __ ∷ __ ∷ __ ∷ __ ∷
      __ ∷ __ ∷ __ ∷ __ ∷ __ ∷ __ ∷ __ ∷ __ ∷
      bP ∷ bP ∷ bP ∷ bP ∷ bP ∷ bP ∷ bP ∷ bP ∷
      bR ∷ bN ∷ bB ∷ bQ ∷ bK ∷ bB ∷ bN ∷ bR ∷ [];
  side = White;
  rights = record { white_king = true; white_queen = true; black_king = true; black_queen = true };
  target = None;
}

twenty_moves : length (legal opening) ≡ 20
unfolding legal all_moves moves_from is_legal_in is_pseudo_legal_as goes promotes_well is_step is_double_step is_pawn_capture is_en_passant castles men_after in_check king_of attacked attacks_as is_clear between lies_between is_within aims_at is_rank_ahead is_line is_straight is_diagonal steps_apart files_apart ranks_apart squares
twenty_moves = refl

-- a position known as Kiwipete: r3k2r/p1ppqpb1/bn2pnp1/3PN3/1p2P3/2N2Q1p/PPPBBPPP/R3K2R w KQkq -
abbrev kiwipete : Board
kiwipete = record {
  men =
      wR ∷ __ ∷ __ ∷ __ ∷ wK ∷ __ ∷ __ ∷ wR ∷
      wP ∷ wP ∷ wP ∷ wB ∷ wB ∷ wP ∷ wP ∷ wP ∷
      __ ∷ __ ∷ wN ∷ __ ∷ __ ∷ wQ ∷ __ ∷ bP ∷
      __ ∷ bP ∷ __ ∷ __ ∷ wP ∷ __ ∷ __ ∷ __ ∷
      __ ∷ __ ∷ __ ∷ wP ∷ wN ∷ __ ∷ __ ∷ __ ∷
      bB ∷ bN ∷ __ ∷ __ ∷ bP ∷ bN ∷ bP ∷ __ ∷
      bP ∷ __ ∷ bP ∷ bP ∷ bQ ∷ bP ∷ bB ∷ __ ∷
      bR ∷ __ ∷ __ ∷ __ ∷ bK ∷ __ ∷ __ ∷ bR ∷ [];
  side = White;
  rights = record { white_king = true; white_queen = true; black_king = true; black_queen = true };
  target = None;
}

forty_eight_moves : length (legal kiwipete) ≡ 48
unfolding legal all_moves moves_from is_legal_in is_pseudo_legal_as goes promotes_well is_step is_double_step is_pawn_capture is_en_passant castles men_after in_check king_of attacked attacks_as is_clear between lies_between is_within aims_at is_rank_ahead is_line is_straight is_diagonal steps_apart files_apart ranks_apart squares
forty_eight_moves = refl

-- the fool's mate: rnb1kbnr/pppp1ppp/8/4p3/6Pq/5P2/PPPPP2P/RNBQKBNR w KQkq -
abbrev fools_mate : Board
fools_mate = record {
  men =
      wR ∷ wN ∷ wB ∷ wQ ∷ wK ∷ wB ∷ wN ∷ wR ∷
      wP ∷ wP ∷ wP ∷ wP ∷ wP ∷ __ ∷ __ ∷ wP ∷
      __ ∷ __ ∷ __ ∷ __ ∷ __ ∷ wP ∷ __ ∷ __ ∷
      __ ∷ __ ∷ __ ∷ __ ∷ __ ∷ __ ∷ wP ∷ bQ ∷
      __ ∷ __ ∷ __ ∷ __ ∷ bP ∷ __ ∷ __ ∷ __ ∷
      __ ∷ __ ∷ __ ∷ __ ∷ __ ∷ __ ∷ __ ∷ __ ∷
      bP ∷ bP ∷ bP ∷ bP ∷ __ ∷ bP ∷ bP ∷ bP ∷
      bR ∷ bN ∷ bB ∷ __ ∷ bK ∷ bB ∷ bN ∷ bR ∷ [];
  side = White;
  rights = record { white_king = true; white_queen = true; black_king = true; black_queen = true };
  target = None;
}

fools_mate_mates : IsMated fools_mate White
unfolding legal all_moves moves_from is_legal_in is_pseudo_legal_as goes promotes_well is_step is_double_step is_pawn_capture is_en_passant castles men_after in_check king_of attacked attacks_as is_clear between lies_between is_within aims_at is_rank_ahead is_line is_straight is_diagonal steps_apart files_apart ranks_apart squares
fools_mate_mates = record { to_move = refl; check = refl; stuck = refl }

-- a stalemate: 7k/5Q2/6K1/8/8/8/8/8 b - -
abbrev cornered : Board
cornered = record {
  men =
      __ ∷ __ ∷ __ ∷ __ ∷ __ ∷ __ ∷ __ ∷ __ ∷
      __ ∷ __ ∷ __ ∷ __ ∷ __ ∷ __ ∷ __ ∷ __ ∷
      __ ∷ __ ∷ __ ∷ __ ∷ __ ∷ __ ∷ __ ∷ __ ∷
      __ ∷ __ ∷ __ ∷ __ ∷ __ ∷ __ ∷ __ ∷ __ ∷
      __ ∷ __ ∷ __ ∷ __ ∷ __ ∷ __ ∷ __ ∷ __ ∷
      __ ∷ __ ∷ __ ∷ __ ∷ __ ∷ __ ∷ wK ∷ __ ∷
      __ ∷ __ ∷ __ ∷ __ ∷ __ ∷ wQ ∷ __ ∷ __ ∷
      __ ∷ __ ∷ __ ∷ __ ∷ __ ∷ __ ∷ __ ∷ bK ∷ [];
  side = Black;
  rights = record { white_king = false; white_queen = false; black_king = false; black_queen = false };
  target = None;
}

cornered_is_stalemated : IsStalemated cornered
unfolding legal all_moves moves_from is_legal_in is_pseudo_legal_as goes promotes_well is_step is_double_step is_pawn_capture is_en_passant castles men_after in_check king_of attacked attacks_as is_clear between lies_between is_within aims_at is_rank_ahead is_line is_straight is_diagonal steps_apart files_apart ranks_apart squares
cornered_is_stalemated = record { free = refl; stuck = refl }

-- f1 and b1 are attacked: 1r2kr2/8/8/8/8/8/8/R3K2R w KQ -
abbrev guarded_way : Board
guarded_way = record {
  men =
      wR ∷ __ ∷ __ ∷ __ ∷ wK ∷ __ ∷ __ ∷ wR ∷
      __ ∷ __ ∷ __ ∷ __ ∷ __ ∷ __ ∷ __ ∷ __ ∷
      __ ∷ __ ∷ __ ∷ __ ∷ __ ∷ __ ∷ __ ∷ __ ∷
      __ ∷ __ ∷ __ ∷ __ ∷ __ ∷ __ ∷ __ ∷ __ ∷
      __ ∷ __ ∷ __ ∷ __ ∷ __ ∷ __ ∷ __ ∷ __ ∷
      __ ∷ __ ∷ __ ∷ __ ∷ __ ∷ __ ∷ __ ∷ __ ∷
      __ ∷ __ ∷ __ ∷ __ ∷ __ ∷ __ ∷ __ ∷ __ ∷
      __ ∷ bR ∷ __ ∷ __ ∷ bK ∷ bR ∷ __ ∷ __ ∷ [];
  side = White;
  rights = record { white_king = true; white_queen = true; black_king = false; black_queen = false };
  target = None;
}

-- the king would pass over an attacked square
no_castling_through_check : is_legal_in guarded_way (record { from = 4; to = 6; promotion = None }) ≡ false
unfolding is_legal_in is_pseudo_legal_as goes promotes_well is_step is_double_step is_pawn_capture is_en_passant castles men_after in_check king_of attacked attacks_as is_clear between lies_between is_within aims_at is_rank_ahead is_line is_straight is_diagonal steps_apart files_apart ranks_apart squares
no_castling_through_check = refl

-- the square on the b-file may be attacked
castling_past_an_attacked_rook_way : is_legal_in guarded_way (record { from = 4; to = 2; promotion = None }) ≡ true
unfolding is_legal_in is_pseudo_legal_as goes promotes_well is_step is_double_step is_pawn_capture is_en_passant castles men_after in_check king_of attacked attacks_as is_clear between lies_between is_within aims_at is_rank_ahead is_line is_straight is_diagonal steps_apart files_apart ranks_apart squares
castling_past_an_attacked_rook_way = refl

-- a capture en passant would open the rank: 8/8/8/K2pP2r/8/8/8/4k3 w - d6
abbrev pinned : Board
pinned = record {
  men =
      __ ∷ __ ∷ __ ∷ __ ∷ bK ∷ __ ∷ __ ∷ __ ∷
      __ ∷ __ ∷ __ ∷ __ ∷ __ ∷ __ ∷ __ ∷ __ ∷
      __ ∷ __ ∷ __ ∷ __ ∷ __ ∷ __ ∷ __ ∷ __ ∷
      __ ∷ __ ∷ __ ∷ __ ∷ __ ∷ __ ∷ __ ∷ __ ∷
      wK ∷ __ ∷ __ ∷ bP ∷ wP ∷ __ ∷ __ ∷ bR ∷
      __ ∷ __ ∷ __ ∷ __ ∷ __ ∷ __ ∷ __ ∷ __ ∷
      __ ∷ __ ∷ __ ∷ __ ∷ __ ∷ __ ∷ __ ∷ __ ∷
      __ ∷ __ ∷ __ ∷ __ ∷ __ ∷ __ ∷ __ ∷ __ ∷ [];
  side = White;
  rights = record { white_king = false; white_queen = false; black_king = false; black_queen = false };
  target = Some 43;
}

no_capture_that_opens_the_king : is_legal_in pinned (record { from = 36; to = 43; promotion = None }) ≡ false
unfolding is_legal_in is_pseudo_legal_as goes promotes_well is_step is_double_step is_pawn_capture is_en_passant castles men_after in_check king_of attacked attacks_as is_clear between lies_between is_within aims_at is_rank_ahead is_line is_straight is_diagonal steps_apart files_apart ranks_apart squares
no_capture_that_opens_the_king = refl

-- the same with the rook elsewhere: 7r/8/8/K2pP3/8/8/8/4k3 w - d6
abbrev unpinned : Board
unpinned = record {
  men =
      __ ∷ __ ∷ __ ∷ __ ∷ bK ∷ __ ∷ __ ∷ __ ∷
      __ ∷ __ ∷ __ ∷ __ ∷ __ ∷ __ ∷ __ ∷ __ ∷
      __ ∷ __ ∷ __ ∷ __ ∷ __ ∷ __ ∷ __ ∷ __ ∷
      __ ∷ __ ∷ __ ∷ __ ∷ __ ∷ __ ∷ __ ∷ __ ∷
      wK ∷ __ ∷ __ ∷ bP ∷ wP ∷ __ ∷ __ ∷ __ ∷
      __ ∷ __ ∷ __ ∷ __ ∷ __ ∷ __ ∷ __ ∷ __ ∷
      __ ∷ __ ∷ __ ∷ __ ∷ __ ∷ __ ∷ __ ∷ __ ∷
      __ ∷ __ ∷ __ ∷ __ ∷ __ ∷ __ ∷ __ ∷ bR ∷ [];
  side = White;
  rights = record { white_king = false; white_queen = false; black_king = false; black_queen = false };
  target = Some 43;
}

capture_en_passant : is_legal_in unpinned (record { from = 36; to = 43; promotion = None }) ≡ true
unfolding is_legal_in is_pseudo_legal_as goes promotes_well is_step is_double_step is_pawn_capture is_en_passant castles men_after in_check king_of attacked attacks_as is_clear between lies_between is_within aims_at is_rank_ahead is_line is_straight is_diagonal steps_apart files_apart ranks_apart squares
capture_en_passant = refl

-- the captured pawn stood on d5
captured_pawn_leaves : man_at (men_after unpinned (record { from = 36; to = 43; promotion = None })) 35 ≡ None
unfolding men_after is_legal_in is_pseudo_legal_as goes promotes_well is_step is_double_step is_pawn_capture is_en_passant castles in_check king_of attacked attacks_as is_clear between lies_between is_within aims_at is_rank_ahead is_line is_straight is_diagonal steps_apart files_apart ranks_apart squares
captured_pawn_leaves = refl

-- a pawn before its last step: 4k3/P7/8/8/8/8/8/4K3 w - -
abbrev last_step : Board
last_step = record {
  men =
      __ ∷ __ ∷ __ ∷ __ ∷ wK ∷ __ ∷ __ ∷ __ ∷
      __ ∷ __ ∷ __ ∷ __ ∷ __ ∷ __ ∷ __ ∷ __ ∷
      __ ∷ __ ∷ __ ∷ __ ∷ __ ∷ __ ∷ __ ∷ __ ∷
      __ ∷ __ ∷ __ ∷ __ ∷ __ ∷ __ ∷ __ ∷ __ ∷
      __ ∷ __ ∷ __ ∷ __ ∷ __ ∷ __ ∷ __ ∷ __ ∷
      __ ∷ __ ∷ __ ∷ __ ∷ __ ∷ __ ∷ __ ∷ __ ∷
      wP ∷ __ ∷ __ ∷ __ ∷ __ ∷ __ ∷ __ ∷ __ ∷
      __ ∷ __ ∷ __ ∷ __ ∷ bK ∷ __ ∷ __ ∷ __ ∷ [];
  side = White;
  rights = record { white_king = false; white_queen = false; black_king = false; black_queen = false };
  target = None;
}

moves_in_order : legal last_step ≡ (record { from = 4; to = 3; promotion = None }) ∷
    (record { from = 4; to = 5; promotion = None }) ∷
    (record { from = 4; to = 11; promotion = None }) ∷
    (record { from = 4; to = 12; promotion = None }) ∷
    (record { from = 4; to = 13; promotion = None }) ∷
    (record { from = 48; to = 56; promotion = Some Queen }) ∷
    (record { from = 48; to = 56; promotion = Some Rook }) ∷
    (record { from = 48; to = 56; promotion = Some Bishop }) ∷
    (record { from = 48; to = 56; promotion = Some Knight }) ∷ []
unfolding legal all_moves moves_from is_legal_in is_pseudo_legal_as goes promotes_well is_step is_double_step is_pawn_capture is_en_passant castles men_after in_check king_of attacked attacks_as is_clear between lies_between is_within aims_at is_rank_ahead is_line is_straight is_diagonal steps_apart files_apart ranks_apart squares
moves_in_order = refl

-- also where no pawn can capture
double_step_sets_the_target : (after opening (record { from = 8; to = 24; promotion = None })).target ≡ Some 16
unfolding after target_after is_double_step files_apart
double_step_sets_the_target = refl

-- kings and rooks at home: r3k2r/8/8/8/8/8/8/R3K2R w KQkq -
abbrev rooks : Board
rooks = record {
  men =
      wR ∷ __ ∷ __ ∷ __ ∷ wK ∷ __ ∷ __ ∷ wR ∷
      __ ∷ __ ∷ __ ∷ __ ∷ __ ∷ __ ∷ __ ∷ __ ∷
      __ ∷ __ ∷ __ ∷ __ ∷ __ ∷ __ ∷ __ ∷ __ ∷
      __ ∷ __ ∷ __ ∷ __ ∷ __ ∷ __ ∷ __ ∷ __ ∷
      __ ∷ __ ∷ __ ∷ __ ∷ __ ∷ __ ∷ __ ∷ __ ∷
      __ ∷ __ ∷ __ ∷ __ ∷ __ ∷ __ ∷ __ ∷ __ ∷
      __ ∷ __ ∷ __ ∷ __ ∷ __ ∷ __ ∷ __ ∷ __ ∷
      bR ∷ __ ∷ __ ∷ __ ∷ bK ∷ __ ∷ __ ∷ bR ∷ [];
  side = White;
  rights = record { white_king = true; white_queen = true; black_king = true; black_queen = true };
  target = None;
}

rook_captured_at_home : (after rooks (record { from = 0; to = 56; promotion = None })).rights ≡ record { white_king = true; white_queen = false; black_king = true; black_queen = false }
unfolding after rights_after
rook_captured_at_home = refl

text_of_a_promotion : move_bytes (record { from = 52; to = 60; promotion = Some Queen }) ≡ 101 ∷ 55 ∷ 101 ∷ 56 ∷ 113 ∷ []
unfolding move_bytes square_text promotion_text
text_of_a_promotion = refl
