-- Where a man may give check (this project).
use Rattle.std.specs.Prelude.{◌≡◌, ℕ, ◌<◌, ◌==◌, Bool, true, false, not, ◌||◌, List, Option}
use Rattle.cha_board.specs.declared.men.Kind.{Kind}
use Rattle.cha_board.specs.declared.men.Kind.TheVariants.{Pawn, King}
use Rattle.cha_board.specs.declared.men.Man.{Man}
use Rattle.cha_board.specs.declared.castling.Wing.TheVariants.{Kingside, Queenside}
use Rattle.cha_board.specs.Men.{other_color}
use Rattle.cha_board.specs.Squares.{rank_of, last_rank, lies_between}
use Rattle.cha_board.specs.SquareSets.{set_of, has_square, set_without}
use Rattle.cha_board.specs.Aims.{aims_over}
use Rattle.cha_board.specs.Board.{Board, man_at, is_empty, king_of, goal_of}
use Rattle.cha_moves.specs.Moves.{is_target}
use Rattle.cha_moves.specs.Shields.{aims_as}

-- a pawn becomes another man on t or captures in passing onto t, or a king castles to t
unfoldable pub is_special_check : Board → Kind → ℕ → Bool
is_special_check q Pawn t = (rank_of t == last_rank q.side) || is_target q.target t
is_special_check q King t = (t == goal_of q.side Queenside) || (t == goal_of q.side Kingside)
is_special_check q k t = false

-- of the men between u and k, one on s is the only one
pub record IsAlone (men : List (Option Man)) (u k s : ℕ) : Type 0 where
  pub stands : is_empty men s ≡ false
  pub only : (y : ℕ) → y < 64 → lies_between u k y ≡ true → is_empty men y ≡ false → y ≡ s

-- lines have each man that alone stands between the square k and a man of the side to move that aims at it
abbrev pub HaveScreens : Board → ℕ → List Bool → Type 0
HaveScreens q k lines = (u s : ℕ) → u < 64 → s < 64 → aims_as q.side k u (man_at q.men u) ≡ true → lies_between u k s ≡ true → IsAlone q.men u k s → has_square lines s ≡ true

-- the squares on which men other than that on s stand
abbrev pub others : Board → ℕ → List Bool
others q s = set_without (set_of (λ u. not (is_empty q.men u))) s

-- a man of the side to move and of kind k aims at the other king from t, over the men other than that on s, or t is one of those
-- squares
unfoldable pub may_check : Board → ℕ → Kind → ℕ → Bool
may_check q s k t = aims_over (other_color q.side) k (king_of q.men (other_color q.side)) (others q s) t || is_special_check q k t
