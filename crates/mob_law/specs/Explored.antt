-- Positions that were expanded in an exploration without a mate (this project).
use Rattle.std.specs.Prelude.{◌≡◌, ℕ, suc, ◌<◌, List, length, Some, IsTrue, slice_get, Contains}
use Rattle.cha_list.specs.Distinct.{AreDistinct}
use Rattle.cha_board.specs.declared.men.Color.{Color}
use Rattle.cha_board.specs.Men.{other_color}
use Rattle.cha_board.specs.Board.{Board}
use Rattle.cha_moves.specs.Step.{Move}
use Rattle.cha_moves.specs.Moves.{after, legal, is_zeroing}
use Rattle.cha_moves.specs.Ends.{IsMated}
use Rattle.mob_law.specs.Static.{IsStaticallyUnwinnable}

-- A position comes by a legal move from one of the first so many of a list; where that move is a capture or a pawn's, the
-- position is not statically unwinnable.
pub record ComesFrom (members : List Board) (before : ℕ) (winner : Color) (q : Board) : Type 0 where
  pub number : ℕ
  pub earlier : number < before
  pub origin : Board
  pub is_origin : slice_get members number ≡ Some origin
  pub by : Move
  pub is_legal : Contains (legal origin) by
  pub leads : after origin by ≡ q
  pub unshown : IsTrue (is_zeroing origin by) → IsStaticallyUnwinnable q winner → ⊥

-- No position of a list is a mate for a side, and no legal move from one of them mates.
pub record AreMateless (members : List Board) (winner : Color) : Type 0 where
  pub none : (q : Board) → Contains members q → IsMated q (other_color winner) → ⊥
  pub next : (q : Board) (m : Move) → Contains members q → Contains (legal q) m → IsMated (after q m) (other_color winner) → ⊥

-- So many distinct positions were expanded, the first of them the one that was asked for and each later one reached from an
-- earlier one by a legal move, and no mate was met. Neither the first is statically unwinnable nor any that a capture or a
-- pawn's move leads to.
pub record IsExplored (q : Board) (winner : Color) (count : ℕ) : Type 0 where
  pub members : List Board
  pub size : length members ≡ count
  pub distinct : AreDistinct members
  pub first : slice_get members 0 ≡ Some q
  pub later : (i : ℕ) (r : Board) → slice_get members (suc i) ≡ Some r → ComesFrom members (suc i) winner r
  pub mateless : AreMateless members winner
  pub unshown : IsStaticallyUnwinnable q winner → ⊥
