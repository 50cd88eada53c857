-- What holds at each position that legal moves reach: the six facts that moves carry along.
use Rattle.std.proofs.Common.{◌≡◌, ℕ, true, Some}
use Rattle.cha_board.specs.declared.men.Color.{Color}
use Rattle.cha_board.specs.declared.castling.Wing.{Wing}
use Rattle.cha_board.specs.declared.men.Kind.TheVariants.{Pawn}
use Rattle.cha_board.specs.declared.men.Man.{Man}
use Rattle.cha_board.specs.Men.{other_color, is_man}
use Rattle.cha_board.specs.Squares.{rank_of}
use Rattle.cha_board.specs.Board.{Board, man_at, home_of, corner_of, has_right}
use Rattle.cha_moves.specs.Moves.{second_rank, is_target, victim_of}
use Rattle.cha_moves.proofs.Kept.{Becomes}
use Rattle.mob_law.specs.Reach.{is_fixed}
use Rattle.mob_sets.specs.Mobility.{Sets}

-- the man that stands on u now comes from the square o of the first position: a man of its colour stood there, which may
-- have become what it is, and the sets have it in reach on u
pub record ComesFrom (p : Board) (s : Sets) (man : Man) (u o : ℕ) : Type 0 where
  pub first : Man
  pub stood : man_at p.men o ≡ Some first
  pub color : first.color ≡ man.color
  pub kind : Becomes first.kind man.kind
  pub reach : s.has o man.kind u ≡ true

-- a target t of q is that of the first position, with the same side to move; or a pawn has just passed over it, which came
-- from its own second rank and has t in reach
pub data Passed (p : Board) (s : Sets) (q : Board) (origin : ℕ → ℕ) (t : ℕ) : Type 0 where
  AtFirst : is_target p.target t ≡ true → q.side ≡ p.side → Passed p s q origin t
  JustNow : rank_of (origin (victim_of q.side t)) ≡ second_rank (other_color q.side)
      → s.has (origin (victim_of q.side t)) Pawn t ≡ true → Passed p s q origin t

-- The six facts of a position q that moves have reached from p. Of each square with a man, `origin` says on which square of
-- p that man stood; of empty squares it says nothing.
pub record Facts (p : Board) (s : Sets) (q : Board) (origin : ℕ → ℕ) : Type 0 where
  -- 1: each man comes from where a man of its colour stood, of its kind or a pawn before its promotion, and the sets have it
  -- in reach where it stands
  pub each : (u : ℕ) (man : Man) → man_at q.men u ≡ Some man → ComesFrom p s man u (origin u)
  -- 2: no two men come from one square
  pub distinct : (u v : ℕ) (man other : Man) → man_at q.men u ≡ Some man → man_at q.men v ≡ Some other → origin u ≡ origin v → u ≡ v
  -- 3: on a fixed square stands what stood there at first, and it is its own origin
  pub fixed : (f : ℕ) → is_fixed p s f ≡ true → (man_at q.men f ≡ man_at p.men f) × (origin f ≡ f)
  -- 4: a pawn on its own second rank has not moved
  pub second : (u : ℕ) (c : Color) → is_man c Pawn (man_at q.men u) ≡ true → rank_of u ≡ second_rank c → origin u ≡ u
  -- 5: a right to castle was there at first, and its king and its rook have not moved
  pub right : (c : Color) (w : Wing) → has_right q.rights c w ≡ true
      → (has_right p.rights c w ≡ true) × (origin (home_of c) ≡ home_of c) × (origin (corner_of c w) ≡ corner_of c w)
  -- 6: a target is the first position's, or a pawn has just passed over it
  pub target : (t : ℕ) → is_target q.target t ≡ true → Passed p s q origin t

-- the facts hold, with some origins
abbrev pub FactsHold : Board → Sets → Board → Type 0
FactsHold p s q = (origin : ℕ → ℕ) × Facts p s q origin
