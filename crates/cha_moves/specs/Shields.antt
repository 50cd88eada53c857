-- What checks the king of the side to move, and what shields it (Laws of Chess, Articles 3.9.1 and 3.9.2).
use Rattle.std.specs.Prelude.{◌≡◌, ℕ, ◌<◌, ◌==◌, Bool, true, false, ◌&&◌, ◌||◌, List, [], ◌∷◌, Option, Some, None, slice_set}
use Rattle.cha_board.specs.declared.men.Color.{Color}
use Rattle.cha_board.specs.declared.men.Man.{Man}
use Rattle.cha_board.specs.declared.men.Kind.TheVariants.{King}
use Rattle.cha_board.specs.Men.{other_color, same_color, is_man}
use Rattle.cha_board.specs.Squares.{aims_at, lies_between}
use Rattle.cha_board.specs.Board.{Board, man_at, attacks_as, king_of}
use Rattle.cha_board.specs.SquareSets.{has_square}
use Rattle.cha_moves.specs.Step.{Move}
use Rattle.cha_moves.specs.Moves.{captures_en_passant}
use Rattle.cha_moves.specs.Ways.{legal_between}

-- a man of c that stands on u aims at k, over whatever squares
abbrev pub aims_as : Color → ℕ → ℕ → Option Man → Bool
aims_as c k u None = false
aims_as c k u (Some man) = same_color man.color c && aims_at c man.kind u k

-- a man that arrives on t ends an attack from u on k: t is u, or lies between the two
unfoldable pub stops : ℕ → ℕ → ℕ → Bool
stops k u t = (t == u) || lies_between k u t

-- what stands on u attacks the king of the side to move, where the men are these
abbrev pub checks : Board → List (Option Man) → ℕ → Bool
checks q men u = attacks_as men (other_color q.side) (king_of q.men q.side) u (man_at men u)

-- the men without what stands on s
abbrev pub men_less : Board → ℕ → List (Option Man)
men_less q s = slice_set q.men s None

-- A man gives check, and a man that arrives on t does not end that.
pub record Unstopped (q : Board) (t : ℕ) : Type 0 where
  pub by : ℕ
  pub on_board : by < 64
  pub check : checks q q.men by ≡ true
  pub missed : stops (king_of q.men q.side) by t ≡ false

-- The answers are the squares that end every check; and without a man that is no screen, only men attack its
-- king that give check already (this project).
pub record AreShields (q : Board) (answers screens : List Bool) : Type 0 where
  pub stopped : (u t : ℕ) → u < 64 → t < 64 → checks q q.men u ≡ true → has_square answers t ≡ true → stops (king_of q.men q.side) u t ≡ true
  pub unstopped : (t : ℕ) → t < 64 → has_square answers t ≡ false → Unstopped q t
  pub shielded : (s u : ℕ) → s < 64 → u < 64 → has_square screens s ≡ false → checks q (men_less q s) u ≡ true → checks q q.men u ≡ true

-- A man that is no king and no screen, and captures nothing en passant.
pub record IsFree (q : Board) (screens : List Bool) (s : ℕ) : Type 0 where
  pub no_king : is_man q.side King (man_at q.men s) ≡ false
  pub no_passing : (t : ℕ) → captures_en_passant q (man_at q.men s) s t ≡ false
  pub no_screen : has_square screens s ≡ false

-- there is some move
abbrev pub some_move : List Move → Bool
some_move [] = false
some_move (m ∷ ms) = true

-- some move from s to t is legal
unfoldable pub goes_legally : Board → ℕ → ℕ → Bool
goes_legally q s t = some_move (legal_between q s t)
