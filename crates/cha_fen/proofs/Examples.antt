-- Worked texts, computed from the definitions.
use Rattle.std.proofs.Common.{◌≡◌, ℕ, List, [], ◌∷◌, ◌++◌, Result, Ok, Err, refl}
use Rattle.std.specs.Prelude.{codes}
use Rattle.cha_list.specs.Bytes.{in_class}
use Rattle.cha_board.specs.Squares.{squares, files_apart, ranks_apart, steps_apart, is_straight, is_diagonal, is_line, is_rank_ahead, aims_at, is_within, lies_between, between}
use Rattle.cha_board.specs.Board.{Board, has_one_king, has_pawn_at_end, is_pawn_at_end, is_clear, attacks_as, attacked, king_of, in_check, are_at_home, target_fits}
use Rattle.cha_board.specs.Build.{build_fault, kept_rights, kept_target, built}
use Rattle.cha_fen.specs.declared.faults.FenFault.{FenFault}
use Rattle.cha_fen.specs.declared.faults.FenFault.TheVariants.{Shape, Kings, PawnRank, OpponentInCheck}
use Rattle.cha_fen.specs.Fields.{fields_after}
use Rattle.cha_board.specs.Letters.{kind_of, man_of, square_text}
use Rattle.cha_fen.specs.Placement.{rows, squares_of, row_squares, men_upward, men_of_rows}
use Rattle.cha_fen.specs.Fen.{side_of, are_rights, rights_of, target_of, are_clocks, parts_of, fen}
use Rattle.cha_board.specs.Letters.{letter_of}
use Rattle.cha_fen.specs.Written.{row_text_after, ranks_text, rights_text, target_text, fen_text}

-- what is written of a position that was read, or the fault
abbrev text_again : Result Board FenFault → Result (List ℕ) FenFault
text_again (Ok q) = Ok (fen_text q)
text_again (Err fault) = Err fault

rewritten : List ℕ → Result (List ℕ) FenFault
unfolding fen parts_of fields_after in_class rows kind_of man_of squares_of row_squares men_upward men_of_rows side_of are_rights rights_of target_of are_clocks
    build_fault has_one_king has_pawn_at_end is_pawn_at_end in_check king_of attacked attacks_as is_clear between lies_between is_within aims_at is_rank_ahead is_line is_straight is_diagonal steps_apart files_apart ranks_apart squares
    built kept_rights kept_target are_at_home target_fits fen_text ranks_text row_text_after letter_of rights_text target_text square_text
rewritten bytes = text_again (fen bytes)

-- The position at the beginning of a game (PGN standard, 16.1.4).
opening_position : rewritten (codes "rnbqkbnr/pppppppp/8/8/8/8/PPPPPPPP/RNBQKBNR w KQkq - 0 1") ≡ Ok (codes "rnbqkbnr/pppppppp/8/8/8/8/PPPPPPPP/RNBQKBNR w KQkq -")
unfolding rewritten
opening_position = refl

-- After 1. e4 (PGN standard, 16.1.4): a pawn has just passed over e3.
after_1_e4 : rewritten (codes "rnbqkbnr/pppppppp/8/8/4P3/8/PPPP1PPP/RNBQKBNR b KQkq e3 0 1") ≡ Ok (codes "rnbqkbnr/pppppppp/8/8/4P3/8/PPPP1PPP/RNBQKBNR b KQkq e3")
unfolding rewritten
after_1_e4 = refl

-- After 1. e4 c5 (PGN standard, 16.1.4): a pawn has just passed over c6.
after_1_e4_c5 : rewritten (codes "rnbqkbnr/pp1ppppp/8/2p5/4P3/8/PPPP1PPP/RNBQKBNR w KQkq c6 0 2") ≡ Ok (codes "rnbqkbnr/pp1ppppp/8/2p5/4P3/8/PPPP1PPP/RNBQKBNR w KQkq c6")
unfolding rewritten
after_1_e4_c5 = refl

-- Rights without rooks and a target without a pawn are dropped.
nothing_to_castle_with : rewritten (codes "4k3/8/8/8/8/8/8/4K3 w KQkq e6 0 1") ≡ Ok (codes "4k3/8/8/8/8/8/8/4K3 w - -")
unfolding rewritten
nothing_to_castle_with = refl

-- Of four rights, the one whose rook is not at home is dropped; letters in any order are read.
three_rooks : rewritten (codes "r3k2r/8/8/8/8/8/8/R3K3 w qkQK -") ≡ Ok (codes "r3k2r/8/8/8/8/8/8/R3K3 w Qkq -")
unfolding rewritten
three_rooks = refl

-- Digits side by side are read, and written as one.
digits_side_by_side : rewritten (codes "4k12/44/8/8/8/8/8/4K3 b - -") ≡ Ok (codes "4k3/8/8/8/8/8/8/4K3 b - -")
unfolding rewritten
digits_side_by_side = refl

-- Blanks are spaces and tabs, as many as there are.
tabs_and_spaces : rewritten (9 ∷ codes "  4k3/8/8/8/8/8/8/4K3 w" ++ 9 ∷ codes "- " ++ 9 ∷ codes "- 7 ") ≡ Ok (codes "4k3/8/8/8/8/8/8/4K3 w - -")
unfolding rewritten
tabs_and_spaces = refl

-- A text without fields.
no_text : rewritten ([]) ≡ Err Shape
unfolding rewritten
no_text = refl

-- Three fields.
three_fields : rewritten (codes "4k3/8/8/8/8/8/8/4K3 w -") ≡ Err Shape
unfolding rewritten
three_fields = refl

-- Seven fields.
seven_fields : rewritten (codes "4k3/8/8/8/8/8/8/4K3 w - - 0 1 1") ≡ Err Shape
unfolding rewritten
seven_fields = refl

-- Nine squares in a row.
nine_squares : rewritten (codes "4k4/8/8/8/8/8/8/4K3 w - -") ≡ Err Shape
unfolding rewritten
nine_squares = refl

-- Seven rows.
seven_rows : rewritten (codes "4k3/8/8/8/8/8/4K3 w - -") ≡ Err Shape
unfolding rewritten
seven_rows = refl

-- A letter of the rights that stands twice.
doubled_right : rewritten (codes "4k3/8/8/8/8/8/8/4K3 w KK -") ≡ Err Shape
unfolding rewritten
doubled_right = refl

-- A target on a ninth rank.
ninth_rank : rewritten (codes "4k3/8/8/8/8/8/8/4K3 w - e9") ≡ Err Shape
unfolding rewritten
ninth_rank = refl

-- A clock that is no number.
clock_of_letters : rewritten (codes "4k3/8/8/8/8/8/8/4K3 w - - x") ≡ Err Shape
unfolding rewritten
clock_of_letters = refl

-- No kings.
no_kings : rewritten (codes "8/8/8/8/8/8/8/8 w - -") ≡ Err Kings
unfolding rewritten
no_kings = refl

-- A pawn on the first rank.
pawn_on_the_first_rank : rewritten (codes "4k3/8/8/8/8/8/8/p3K3 b - -") ≡ Err PawnRank
unfolding rewritten
pawn_on_the_first_rank = refl

-- Kings side by side.
kings_side_by_side : rewritten (codes "8/8/8/8/8/8/8/3Kk3 w - -") ≡ Err OpponentInCheck
unfolding rewritten
kings_side_by_side = refl

-- A missing king comes before a pawn on the last rank.
kings_before_pawns : rewritten (codes "P7/8/8/8/8/8/8/4K3 w - -") ≡ Err Kings
unfolding rewritten
kings_before_pawns = refl

-- A pawn on the last rank comes before a check.
pawns_before_check : rewritten (codes "P3k3/8/8/8/8/8/8/4RK2 w - -") ≡ Err PawnRank
unfolding rewritten
pawns_before_check = refl
