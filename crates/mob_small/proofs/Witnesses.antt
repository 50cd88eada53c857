-- Mates with small material, one for each two kinds with which there is one.
use Rattle.std.proofs.Common.{◌≡◌, ◌≢◌, ℕ, ◌<◌, ◌==◌, Bool, true, false, not, ◌&&◌, ◌||◌, ◌⊎◌, List, [], ◌∷◌, length, Option, Some, None, refl, inl, inr}
use Rattle.std.specs.List.{list_all}
use Rattle.std.proofs.lemmas.Bool.{and_parts, both_ways, eqb-true, not-true, false_from_ne_true}
use Rattle.cha_board.specs.declared.men.Color.{Color}
use Rattle.cha_board.specs.declared.men.Color.TheVariants.{White, Black}
use Rattle.cha_board.specs.declared.men.Kind.{Kind}
use Rattle.cha_board.specs.declared.men.Kind.TheVariants.{Pawn, Knight, Bishop, Rook, Queen, King}
use Rattle.cha_board.specs.declared.men.Man.{Man}
use Rattle.cha_board.specs.declared.castling.Wing.{Wing}
use Rattle.cha_board.specs.Men.{other_color, is_man, is_non_king}
use Rattle.cha_board.specs.Squares.{squares, files_apart, ranks_apart, steps_apart, is_straight, is_diagonal, is_line, is_rank_ahead, aims_at, is_within, lies_between, between}
use Rattle.cha_board.specs.Board.{Board, man_at, is_clear, attacks_as, attacked, king_of, in_check, has_one_king, is_pawn_at_end, has_pawn_at_end, no_rights, right_fits}
use Rattle.cha_board.proofs.Identity.{if_at, all_five, other_other}
use Rattle.cha_board.proofs.RightLaws.{has-where}
use Rattle.cha_board.proofs.Scans.{all_squares_at}
use Rattle.cha_moves.specs.Moves.{is_step, is_double_step, is_pawn_capture, is_en_passant, castles, goes, promotes_well, is_pseudo_legal_as, men_after, is_legal_in, moves_from, all_moves, legal}
use Rattle.cha_moves.specs.MateLines.{is_mated}
use Rattle.cha_moves.proofs.Mated.{mated_is}
use Rattle.cha_moves.proofs.PlacedMen.{Placed, at, men_of}
use Rattle.mob_small.specs.Small.{HasOnlyKing, HasOneBeside, HasBeside, IsSmallMate}
use Rattle.mob_small.specs.MateFreeKinds.{is_free}
use Rattle.mob_small.proofs.Scene.{non_king_inside}

-- the loser is to move
unfoldable pub position_of : List Placed → Color → Board
position_of men w = record { men = men_of men; side = other_color w; rights = no_rights; target = None }

-- each man of c beside its king stands on s
is_alone : List (Option Man) → Color → ℕ → Bool
is_alone men c s = list_all (λ u. not (is_non_king c (man_at men u)) || (u == s)) squares

-- c has no man beside its king
is_bare : List (Option Man) → Color → Bool
is_bare men c = list_all (λ u. not (is_non_king c (man_at men u))) squares

-- one man of c and kind k beside the king, on s
has_one : List (Option Man) → Color → Kind → ℕ → Bool
has_one men c k s = is_man c k (man_at men s) && is_alone men c s

-- the men are there, the position is valid, and it is a mate
is_shown : Board → Color → Kind → ℕ → Bool
is_shown q w own s =
    (length q.men == 64) && (has_one_king q.men White && has_one_king q.men Black) && not (has_pawn_at_end q.men) && not (in_check q.men w)
    && has_one q.men w own s && is_mated q (other_color w)

alone_from : (men : List (Option Man)) (c : Color) (s : ℕ) → length men ≡ 64 → is_alone men c s ≡ true → (u : ℕ) → is_non_king c (man_at men u) ≡ true → u ≡ s
unfolding is_alone
alone_from men c s size table u h =
    let inside : u < 64 = rw size at (non_king_inside men c u h) in
    eqb-true u s (if_at (is_non_king c (man_at men u)) (u == s) (all_squares_at (λ x. not (is_non_king c (man_at men x)) || (x == s)) u table inside) h)

one_from : (men : List (Option Man)) (c : Color) (k : Kind) (s : ℕ) → length men ≡ 64 → k ≢ King → has_one men c k s ≡ true → HasOneBeside men c k
unfolding has_one
one_from men c k s size no_king h =
    let both = and_parts (is_man c k (man_at men s)) (is_alone men c s) h in
    record { square = s; stands = both.0; no_king = no_king; alone = alone_from men c s size both.1 }

bare_from : (men : List (Option Man)) (c : Color) → length men ≡ 64 → is_bare men c ≡ true → HasOnlyKing men c
unfolding is_bare
bare_from men c size table u =
    false_from_ne_true (is_non_king c (man_at men u)) (λ h.
    let inside : u < 64 = rw size at (non_king_inside men c u h) in
    both_ways (is_non_king c (man_at men u)) (not-true (is_non_king c (man_at men u)) (all_squares_at (λ x. not (is_non_king c (man_at men x))) u table inside)) h)

one_king_each : (men : List (Option Man)) → (has_one_king men White && has_one_king men Black) ≡ true → (c : Color) → has_one_king men c ≡ true
one_king_each men h White = (and_parts (has_one_king men White) (has_one_king men Black) h).0
one_king_each men h Black = (and_parts (has_one_king men White) (has_one_king men Black) h).1

no_right_fits : (men : List (Option Man)) (c : Color) (w : Wing) → right_fits men no_rights c w ≡ true
unfolding right_fits
no_right_fits men c w = rw (has-where (λ c w. false) c w) refl

-- what the tests show
module _ (men : List Placed) (w : Color) (own : Kind) (s : ℕ) (no_king : own ≢ King) (h : is_shown (position_of men w) w own s ≡ true) where
  all_shown : (length (men_of men) ≡ 64) × ((has_one_king (men_of men) White && has_one_king (men_of men) Black) ≡ true) × (not (has_pawn_at_end (men_of men)) ≡ true) × (not (in_check (men_of men) w) ≡ true)
      × (has_one (men_of men) w own s ≡ true) × (is_mated (position_of men w) (other_color w) ≡ true)
  unfolding is_shown position_of
  all_shown =
      let a = length (men_of men) == 64 in
      let b = has_one_king (men_of men) White && has_one_king (men_of men) Black in
      let c = not (has_pawn_at_end (men_of men)) in
      let d = not (in_check (men_of men) w) in
      let e = has_one (men_of men) w own s in
      let x = and_parts (a && b && c && d && e) (is_mated (position_of men w) (other_color w)) h in
      let y = all_five a b c d e x.0 in
      (eqb-true (length (men_of men)) 64 y.0, y.1, y.2, y.3, y.4, x.1)

  mate_shown : (other : Option Kind) → HasOnlyKing (men_of men) (other_color w) ⊎ HasBeside (men_of men) (other_color w) other → IsSmallMate w own other (position_of men w)
  unfolding position_of
  mate_shown other loser =
      let t = all_shown in
      record {
        valid = record {
          size = t.0;
          kings = one_king_each (men_of men) t.1;
          pawns = t.2;
          opponent = rw other_other t.3;
          rights = no_right_fits (men_of men);
          target = refl;
        };
        rights = refl;
        target = refl;
        winner = one_from (men_of men) w own s t.0 no_king t.4;
        loser = loser;
        mate = mated_is (position_of men w) (other_color w) t.5;
      }

  -- with no man of the loser's beside its king
  bare_shown : (other : Option Kind) → is_bare (men_of men) (other_color w) ≡ true → IsSmallMate w own other (position_of men w)
  bare_shown other bare = mate_shown other (inl (bare_from (men_of men) (other_color w) all_shown.0 bare))

  -- with one
  pair_shown : (k : Kind) (u : ℕ) → k ≢ King → has_one (men_of men) (other_color w) k u ≡ true → IsSmallMate w own (Some k) (position_of men w)
  pair_shown k u no_king' one = mate_shown (Some k) (inr (one_from (men_of men) (other_color w) k u all_shown.0 no_king' one))

-- The mates. The loser's king stands on h8; a knight on f7 or a bishop on g7 checks it with the help of the loser's own man,
-- a rook on a8 and a queen on g7 without it.
rook_alone : Color → List Placed
rook_alone w = at 63 (other_color w) King ∷ at 56 w Rook ∷ at 47 w King ∷ []

queen_alone : Color → List Placed
queen_alone w = at 63 (other_color w) King ∷ at 54 w Queen ∷ at 46 w King ∷ []

knight_beside_rook : Color → List Placed
knight_beside_rook w = at 63 (other_color w) King ∷ at 62 (other_color w) Rook ∷ at 53 w Knight ∷ at 47 w King ∷ []

knight_beside_bishop : Color → List Placed
knight_beside_bishop w = at 63 (other_color w) King ∷ at 55 (other_color w) Bishop ∷ at 53 w Knight ∷ at 61 w King ∷ []

knight_beside_knight : Color → List Placed
knight_beside_knight w = at 63 (other_color w) King ∷ at 62 (other_color w) Knight ∷ at 53 w Knight ∷ at 46 w King ∷ []

bishop_beside_knight : Color → List Placed
bishop_beside_knight w = at 63 (other_color w) King ∷ at 62 (other_color w) Knight ∷ at 54 w Bishop ∷ at 46 w King ∷ []

bishop_beside_bishop : Color → List Placed
bishop_beside_bishop w = at 63 (other_color w) King ∷ at 62 (other_color w) Bishop ∷ at 54 w Bishop ∷ at 46 w King ∷ []

rook_alone_shown : (w : Color) → is_shown (position_of (rook_alone w) w) w Rook 56 ≡ true
unfolding rook_alone position_of is_shown has_one is_alone is_mated legal all_moves moves_from is_legal_in is_pseudo_legal_as goes promotes_well is_step is_double_step is_pawn_capture is_en_passant castles men_after has_one_king has_pawn_at_end is_pawn_at_end in_check king_of attacked attacks_as is_clear between lies_between is_within aims_at is_rank_ahead is_line is_straight is_diagonal steps_apart files_apart ranks_apart squares
rook_alone_shown White = refl
rook_alone_shown Black = refl

rook_alone_bare : (w : Color) → is_bare (men_of (rook_alone w)) (other_color w) ≡ true
unfolding rook_alone is_bare squares
rook_alone_bare White = refl
rook_alone_bare Black = refl

queen_alone_shown : (w : Color) → is_shown (position_of (queen_alone w) w) w Queen 54 ≡ true
unfolding queen_alone position_of is_shown has_one is_alone is_mated legal all_moves moves_from is_legal_in is_pseudo_legal_as goes promotes_well is_step is_double_step is_pawn_capture is_en_passant castles men_after has_one_king has_pawn_at_end is_pawn_at_end in_check king_of attacked attacks_as is_clear between lies_between is_within aims_at is_rank_ahead is_line is_straight is_diagonal steps_apart files_apart ranks_apart squares
queen_alone_shown White = refl
queen_alone_shown Black = refl

queen_alone_bare : (w : Color) → is_bare (men_of (queen_alone w)) (other_color w) ≡ true
unfolding queen_alone is_bare squares
queen_alone_bare White = refl
queen_alone_bare Black = refl

knight_beside_rook_shown : (w : Color) → is_shown (position_of (knight_beside_rook w) w) w Knight 53 ≡ true
unfolding knight_beside_rook position_of is_shown has_one is_alone is_mated legal all_moves moves_from is_legal_in is_pseudo_legal_as goes promotes_well is_step is_double_step is_pawn_capture is_en_passant castles men_after has_one_king has_pawn_at_end is_pawn_at_end in_check king_of attacked attacks_as is_clear between lies_between is_within aims_at is_rank_ahead is_line is_straight is_diagonal steps_apart files_apart ranks_apart squares
knight_beside_rook_shown White = refl
knight_beside_rook_shown Black = refl

knight_beside_rook_own : (w : Color) → has_one (men_of (knight_beside_rook w)) (other_color w) Rook 62 ≡ true
unfolding knight_beside_rook has_one is_alone squares
knight_beside_rook_own White = refl
knight_beside_rook_own Black = refl

knight_beside_bishop_shown : (w : Color) → is_shown (position_of (knight_beside_bishop w) w) w Knight 53 ≡ true
unfolding knight_beside_bishop position_of is_shown has_one is_alone is_mated legal all_moves moves_from is_legal_in is_pseudo_legal_as goes promotes_well is_step is_double_step is_pawn_capture is_en_passant castles men_after has_one_king has_pawn_at_end is_pawn_at_end in_check king_of attacked attacks_as is_clear between lies_between is_within aims_at is_rank_ahead is_line is_straight is_diagonal steps_apart files_apart ranks_apart squares
knight_beside_bishop_shown White = refl
knight_beside_bishop_shown Black = refl

knight_beside_bishop_own : (w : Color) → has_one (men_of (knight_beside_bishop w)) (other_color w) Bishop 55 ≡ true
unfolding knight_beside_bishop has_one is_alone squares
knight_beside_bishop_own White = refl
knight_beside_bishop_own Black = refl

knight_beside_knight_shown : (w : Color) → is_shown (position_of (knight_beside_knight w) w) w Knight 53 ≡ true
unfolding knight_beside_knight position_of is_shown has_one is_alone is_mated legal all_moves moves_from is_legal_in is_pseudo_legal_as goes promotes_well is_step is_double_step is_pawn_capture is_en_passant castles men_after has_one_king has_pawn_at_end is_pawn_at_end in_check king_of attacked attacks_as is_clear between lies_between is_within aims_at is_rank_ahead is_line is_straight is_diagonal steps_apart files_apart ranks_apart squares
knight_beside_knight_shown White = refl
knight_beside_knight_shown Black = refl

knight_beside_knight_own : (w : Color) → has_one (men_of (knight_beside_knight w)) (other_color w) Knight 62 ≡ true
unfolding knight_beside_knight has_one is_alone squares
knight_beside_knight_own White = refl
knight_beside_knight_own Black = refl

bishop_beside_knight_shown : (w : Color) → is_shown (position_of (bishop_beside_knight w) w) w Bishop 54 ≡ true
unfolding bishop_beside_knight position_of is_shown has_one is_alone is_mated legal all_moves moves_from is_legal_in is_pseudo_legal_as goes promotes_well is_step is_double_step is_pawn_capture is_en_passant castles men_after has_one_king has_pawn_at_end is_pawn_at_end in_check king_of attacked attacks_as is_clear between lies_between is_within aims_at is_rank_ahead is_line is_straight is_diagonal steps_apart files_apart ranks_apart squares
bishop_beside_knight_shown White = refl
bishop_beside_knight_shown Black = refl

bishop_beside_knight_own : (w : Color) → has_one (men_of (bishop_beside_knight w)) (other_color w) Knight 62 ≡ true
unfolding bishop_beside_knight has_one is_alone squares
bishop_beside_knight_own White = refl
bishop_beside_knight_own Black = refl

bishop_beside_bishop_shown : (w : Color) → is_shown (position_of (bishop_beside_bishop w) w) w Bishop 54 ≡ true
unfolding bishop_beside_bishop position_of is_shown has_one is_alone is_mated legal all_moves moves_from is_legal_in is_pseudo_legal_as goes promotes_well is_step is_double_step is_pawn_capture is_en_passant castles men_after has_one_king has_pawn_at_end is_pawn_at_end in_check king_of attacked attacks_as is_clear between lies_between is_within aims_at is_rank_ahead is_line is_straight is_diagonal steps_apart files_apart ranks_apart squares
bishop_beside_bishop_shown White = refl
bishop_beside_bishop_shown Black = refl

bishop_beside_bishop_own : (w : Color) → has_one (men_of (bishop_beside_bishop w)) (other_color w) Bishop 62 ≡ true
unfolding bishop_beside_bishop has_one is_alone squares
bishop_beside_bishop_own White = refl
bishop_beside_bishop_own Black = refl

-- So with the kinds that the table does not call free there is a mate: a queen or a rook mates whatever the loser has, and a
-- knight or a bishop with the help of these.
pub some_mate : (w : Color) (own : Kind) (other : Option Kind) → own ≢ Pawn → own ≢ King → other ≢ Some Pawn → other ≢ Some King → is_free own other ≡ false → (q : Board) × IsSmallMate w own other q
unfolding is_free
some_mate w Rook other a b c d held = (_, bare_shown (rook_alone w) w Rook 56 b (rook_alone_shown w) other (rook_alone_bare w))
some_mate w Queen other a b c d held = (_, bare_shown (queen_alone w) w Queen 54 b (queen_alone_shown w) other (queen_alone_bare w))
some_mate w Knight (Some Rook) a b c d held = (_, pair_shown (knight_beside_rook w) w Knight 53 b (knight_beside_rook_shown w) Rook 62 (λ e. cc) (knight_beside_rook_own w))
some_mate w Knight (Some Bishop) a b c d held = (_, pair_shown (knight_beside_bishop w) w Knight 53 b (knight_beside_bishop_shown w) Bishop 55 (λ e. cc) (knight_beside_bishop_own w))
some_mate w Knight (Some Knight) a b c d held = (_, pair_shown (knight_beside_knight w) w Knight 53 b (knight_beside_knight_shown w) Knight 62 (λ e. cc) (knight_beside_knight_own w))
some_mate w Bishop (Some Knight) a b c d held = (_, pair_shown (bishop_beside_knight w) w Bishop 54 b (bishop_beside_knight_shown w) Knight 62 (λ e. cc) (bishop_beside_knight_own w))
some_mate w Bishop (Some Bishop) a b c d held = (_, pair_shown (bishop_beside_bishop w) w Bishop 54 b (bishop_beside_bishop_shown w) Bishop 62 (λ e. cc) (bishop_beside_bishop_own w))
some_mate w Knight None a b c d held = cc
some_mate w Bishop None a b c d held = cc
some_mate w Knight (Some Queen) a b c d held = cc
some_mate w Bishop (Some Queen) a b c d held = cc
some_mate w Bishop (Some Rook) a b c d held = cc
some_mate w Pawn other a b c d held = absurd (a refl)
some_mate w King other a b c d held = absurd (b refl)
some_mate w Knight (Some Pawn) a b c d held = absurd (c refl)
some_mate w Bishop (Some Pawn) a b c d held = absurd (c refl)
some_mate w Knight (Some King) a b c d held = absurd (d refl)
some_mate w Bishop (Some King) a b c d held = absurd (d refl)
