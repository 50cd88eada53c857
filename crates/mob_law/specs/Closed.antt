-- Closed sets: the rules by which they hold all that legal moves reach (this project, from the ways in which men move).
use Rattle.std.specs.Prelude.{◌≡◌, ◌≢◌, ℕ, ◌<◌, Bool, true, false, ◌&&◌, Some}
use Rattle.cha_board.specs.declared.men.Color.{Color}
use Rattle.cha_board.specs.declared.men.Kind.{Kind}
use Rattle.cha_board.specs.declared.men.Kind.TheVariants.{Pawn, Rook, King}
use Rattle.cha_board.specs.declared.men.Man.{Man}
use Rattle.cha_board.specs.declared.castling.Wing.{Wing}
use Rattle.cha_board.specs.Men.{other_color, is_non_king}
use Rattle.cha_board.specs.Squares.{rank_of, last_rank, files_apart, is_rank_ahead, aims_at, lies_between}
use Rattle.cha_board.specs.Board.{Board, man_at, home_of, corner_of, crossing_of, goal_of, has_right}
use Rattle.cha_moves.specs.Moves.{second_rank, fourth_rank, middle, is_target, is_promotion, victim_of}
use Rattle.mob_law.specs.Reach.{is_fixed, is_open, is_guarded}
use Rattle.mob_sets.specs.Mobility.{Sets}

-- a fixed man of c's enemy other than a king stands on t
unfoldable pub has_fixed_enemy : Board → Sets → Color → ℕ → Bool
has_fixed_enemy p s c t = is_fixed p s t && is_non_king (other_color c) (man_at p.men t)

-- the man of the origin o is in reach on u as a k, and t is a square to which it might go
pub record Entry (p : Board) (s : Sets) (o : ℕ) (man : Man) (k : Kind) (u t : ℕ) : Type 0 where
  pub stood : man_at p.men o ≡ Some man
  pub reach : s.has o k u ≡ true
  pub from : u < 64
  pub to : t < 64

-- each man is in reach on its own square, as its own kind
abbrev pub Begins : Board → Sets → Type 0
Begins p s = (o : ℕ) (man : Man) → man_at p.men o ≡ Some man → s.has o man.kind o ≡ true

-- a piece that may go from u to t is in reach there unless t is fixed, and it leaves its origin; and it never faces a fixed
-- enemy that it could capture
pub record PieceGoes (p : Board) (s : Sets) (o : ℕ) (c : Color) (k : Kind) (u t : ℕ) : Type 0 where
  pub goes : is_fixed p s t ≡ false → s.has o k t ≡ true
  pub leaves : is_fixed p s t ≡ false → u ≡ o → s.loose o ≡ true
  pub spares : has_fixed_enemy p s c t ≡ false

-- pieces go where they aim, past all but fixed men, and a king does not step onto a guarded square (Laws of Chess, Articles
-- 3.2 to 3.6 and 3.8.1)
abbrev pub PiecesMove : Board → Sets → Type 0
PiecesMove p s =
    (o : ℕ) (man : Man) (k : Kind) (u t : ℕ) → Entry p s o man k u t → k ≢ Pawn
    → aims_at man.color k u t ≡ true → is_open p s u t ≡ true
    → (k ≡ King → is_guarded p s (other_color man.color) t ≡ false) → PieceGoes p s o man.color k u t

-- a pawn enters t from u: it is in reach there, on the last rank as each of the four kinds that it may become, and it leaves
-- its origin
pub record Enters (p : Board) (s : Sets) (o : ℕ) (c : Color) (u t : ℕ) : Type 0 where
  pub stays : rank_of t ≢ last_rank c → s.has o Pawn t ≡ true
  pub becomes : rank_of t ≡ last_rank c → (k : Kind) → is_promotion (Some k) ≡ true → s.has o k t ≡ true
  pub leaves : u ≡ o → s.loose o ≡ true

-- a pawn enters the square in front of it, unless that is fixed (Article 3.7.1)
abbrev pub PawnsStep : Board → Sets → Type 0
PawnsStep p s =
    (o : ℕ) (man : Man) (u t : ℕ) → Entry p s o man Pawn u t → files_apart u t ≡ 0 → is_rank_ahead man.color u t ≡ true
    → is_fixed p s t ≡ false → Enters p s o man.color u t

-- a pawn on its second rank enters the square two steps ahead, unless that or the square between is fixed (Article 3.7.2)
abbrev pub PawnsDoubleStep : Board → Sets → Type 0
PawnsDoubleStep p s =
    (o : ℕ) (man : Man) (u t : ℕ) → Entry p s o man Pawn u t → files_apart u t ≡ 0
    → rank_of u ≡ second_rank man.color → rank_of t ≡ fourth_rank man.color
    → is_fixed p s (middle u t) ≡ false → is_fixed p s t ≡ false → Enters p s o man.color u t

-- some enemy of c other than a king is in reach on t
pub record EnemyReaches (p : Board) (s : Sets) (c : Color) (t : ℕ) : Type 0 where
  pub origin : ℕ
  pub man : Man
  pub kind : Kind
  pub stood : man_at p.men origin ≡ Some man
  pub enemy : is_non_king (other_color c) (Some man) ≡ true
  pub reach : s.has origin kind t ≡ true

-- a pawn enters a square onto which it captures where an enemy may stand, never faces a fixed enemy there, and enters the
-- target of the position, from which the captured pawn's origin is loose
pub record PawnCaptures (p : Board) (s : Sets) (o : ℕ) (c : Color) (u t : ℕ) : Type 0 where
  pub captures : is_fixed p s t ≡ false → EnemyReaches p s c t → Enters p s o c u t
  pub spares : has_fixed_enemy p s c t ≡ false
  pub en_passant : is_target p.target t ≡ true → c ≡ p.side → Enters p s o c u t
  pub victim : is_target p.target t ≡ true → c ≡ p.side → s.loose (victim_of c t) ≡ true

-- pawns capture so on both squares diagonally in front of them (Articles 3.7.3 and 3.7.3.1)
abbrev pub PawnsCapture : Board → Sets → Type 0
PawnsCapture p s =
    (o : ℕ) (man : Man) (u t : ℕ) → Entry p s o man Pawn u t → aims_at man.color Pawn u t ≡ true
    → PawnCaptures p s o man.color u t

-- a king that castles from h is in reach on k and its rook from r on t, and both leave their origins
pub record Castles (s : Sets) (h k r t : ℕ) : Type 0 where
  pub king : s.has h King k ≡ true
  pub rook : s.has r Rook t ≡ true
  pub king_leaves : s.loose h ≡ true
  pub rook_leaves : s.loose r ≡ true

-- a side with the right to it castles on a wing, unless a square between king and rook is fixed (Article 3.8.2)
abbrev pub KingsCastle : Board → Sets → Type 0
KingsCastle p s =
    (c : Color) (w : Wing) → has_right p.rights c w ≡ true
    → ((t : ℕ) → t < 64 → lies_between (home_of c) (corner_of c w) t ≡ true → is_fixed p s t ≡ false)
    → Castles s (home_of c) (goal_of c w) (corner_of c w) (crossing_of c w)

-- Sets that are closed for a position: all the rules hold (this project).
pub record IsClosed (p : Board) (s : Sets) : Type 0 where
  pub begins : Begins p s
  pub pieces_move : PiecesMove p s
  pub pawns_step : PawnsStep p s
  pub pawns_double_step : PawnsDoubleStep p s
  pub pawns_capture : PawnsCapture p s
  pub kings_castle : KingsCastle p s
