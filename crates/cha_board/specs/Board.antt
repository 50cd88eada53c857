-- Positions, attacks, and which positions are valid.
use Rattle.std.specs.Prelude.{◌≡◌, ℕ, ◌+◌, ◌-◌, ◌==◌, Bool, true, false, not, ◌&&◌, ◌||◌, List, length, Option, Some, None, IsTrue, slice_index_or, count_by}
use Rattle.std.specs.List.{list_all, list_any, position_or_len}
use Rattle.cha_board.specs.declared.men.Color.{Color}
use Rattle.cha_board.specs.declared.men.Color.TheVariants.{White, Black}
use Rattle.cha_board.specs.declared.men.Kind.TheVariants.{Pawn, Rook, King}
use Rattle.cha_board.specs.declared.men.Man.{Man}
use Rattle.cha_board.specs.declared.position.Rights.{Rights}
use Rattle.cha_board.specs.declared.castling.Wing.{Wing}
use Rattle.cha_board.specs.declared.castling.Wing.TheVariants.{Kingside, Queenside}
use Rattle.cha_board.specs.Men.{other_color, same_color, is_vacant, is_man, is_pawn}
use Rattle.cha_board.specs.Squares.{squares, rank_of, ahead_of, aims_at, between}

-- A position: what stands on each of the 64 squares, the side to move, the castlings that are left, and the square that
-- a pawn has just passed over in a double step, if any (PGN standard, 16.1.3).
pub record Board : Type 0 where
  pub men : List (Option Man)
  pub side : Color
  pub rights : Rights
  pub target : Option ℕ

-- what stands on a square
abbrev pub man_at : List (Option Man) → ℕ → Option Man
man_at men s = slice_index_or men s None

-- nothing stands on a square
abbrev pub is_empty : List (Option Man) → ℕ → Bool
is_empty men s = is_vacant (man_at men s)

-- nothing stands between two squares
unfoldable pub is_clear : List (Option Man) → ℕ → ℕ → Bool
is_clear men s t = list_all (λ u. is_empty men u) (between s t)

-- what stands on s is a man of c that aims at t over empty squares
unfoldable pub attacks_as : List (Option Man) → Color → ℕ → ℕ → Option Man → Bool
attacks_as men c t s None = false
attacks_as men c t s (Some man) = same_color man.color c && aims_at c man.kind s t && is_clear men s t

-- some man of c attacks t (Laws of Chess, Article 3.1.2), even one that is bound to guard its own king (Article 3.1.3)
unfoldable pub attacked : List (Option Man) → Color → ℕ → Bool
attacked men c t = list_any (λ s. attacks_as men c t s (man_at men s)) squares

-- where the king of c stands: the first such square
unfoldable pub king_of : List (Option Man) → Color → ℕ
king_of men c = position_or_len (is_man c King) men

-- the king of c is attacked (Laws of Chess, Article 3.9.1)
unfoldable pub in_check : List (Option Man) → Color → Bool
in_check men c = attacked men (other_color c) (king_of men c)

-- c has exactly one king
unfoldable pub has_one_king : List (Option Man) → Color → Bool
has_one_king men c = count_by (is_man c King) men == 1

-- a pawn stands on s, a square of the first or the last rank
unfoldable pub is_pawn_at_end : List (Option Man) → ℕ → Bool
is_pawn_at_end men s = is_pawn (man_at men s) && ((rank_of s == 0) || (rank_of s == 7))

-- some pawn stands on the first or the last rank
unfoldable pub has_pawn_at_end : List (Option Man) → Bool
has_pawn_at_end men = list_any (λ s. is_pawn_at_end men s) squares

-- the home square of c's king: e1 or e8
abbrev pub home_of : Color → ℕ
home_of White = 4
home_of Black = 60

-- the home square of c's rook on a wing: h1 or h8, a1 or a8
abbrev pub corner_of : Color → Wing → ℕ
corner_of c Kingside = home_of c + 3
corner_of c Queenside = home_of c - 4

-- what c's king crosses by castling on a wing, where its rook arrives: f1 or f8, d1 or d8
abbrev pub crossing_of : Color → Wing → ℕ
crossing_of c Kingside = home_of c + 1
crossing_of c Queenside = home_of c - 1

-- where c's king arrives by castling on a wing: g1 or g8, c1 or c8
abbrev pub goal_of : Color → Wing → ℕ
goal_of c Kingside = home_of c + 2
goal_of c Queenside = home_of c - 2

-- a home of c's king or one of its rooks, and of either side's
abbrev pub is_home_of : Color → ℕ → Bool
is_home_of c s = (s == home_of c) || (s == corner_of c Kingside) || (s == corner_of c Queenside)

abbrev pub is_home : ℕ → Bool
is_home s = is_home_of White s || is_home_of Black s

-- c may still castle on a wing, as far as king and rook have not moved
abbrev pub has_right : Rights → Color → Wing → Bool
has_right r White Kingside = r.white_king
has_right r White Queenside = r.white_queen
has_right r Black Kingside = r.black_king
has_right r Black Queenside = r.black_queen

-- the rights that a test tells, and that nobody may castle
abbrev pub rights_where : (Color → Wing → Bool) → Rights
rights_where p = record { white_king = p White Kingside; white_queen = p White Queenside; black_king = p Black Kingside; black_queen = p Black Queenside }

abbrev pub no_rights : Rights
no_rights = rights_where (λ c w. false)

-- the king of c and its rook on a wing are at home
unfoldable pub are_at_home : List (Option Man) → Color → Wing → Bool
are_at_home men c w = is_man c King (man_at men (home_of c)) && is_man c Rook (man_at men (corner_of c w))

-- where c has a right, its king and that rook are at home
unfoldable pub right_fits : List (Option Man) → Rights → Color → Wing → Bool
right_fits men r c w = not (has_right r c w) || are_at_home men c w

-- the rank of the squares over which a pawn of the other side may just have passed, with c to move
abbrev pub target_rank : Color → ℕ
target_rank White = 5
target_rank Black = 2

-- with c to move, a pawn of the other side may just have passed over s: s and the square that it left are empty, and it
-- stands in front of s
unfoldable pub target_fits : List (Option Man) → Color → ℕ → Bool
target_fits men c s =
    (rank_of s == target_rank c) && is_empty men s && is_empty men (ahead_of c s)
    && is_man (other_color c) Pawn (man_at men (ahead_of (other_color c) s))

abbrev pub target_is_good : List (Option Man) → Color → Option ℕ → Bool
target_is_good men c None = true
target_is_good men c (Some s) = target_fits men c s

-- A valid position: each side has one king, no pawn stands on the first or last rank, the side that is not to move is not
-- in check, and the rights and the target fit the men (this project; FEN gives the parts).
pub record IsValid (q : Board) : Type 0 where
  pub size : length q.men ≡ 64
  pub kings : (c : Color) → IsTrue (has_one_king q.men c)
  pub pawns : IsTrue (not (has_pawn_at_end q.men))
  pub opponent : IsTrue (not (in_check q.men (other_color q.side)))
  pub rights : (c : Color) (w : Wing) → IsTrue (right_fits q.men q.rights c w)
  pub target : IsTrue (target_is_good q.men q.side q.target)
