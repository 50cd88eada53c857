-- Positions in the order in which they are expanded.
use Rattle.std.specs.Prelude.{◌≡◌, ℕ, suc, List, Some, slice_get, Contains}
use Rattle.cha_list.specs.Distinct.{AreDistinct}
use Rattle.cha_board.specs.declared.men.Color.{Color}
use Rattle.cha_board.specs.Men.{other_color}
use Rattle.cha_board.specs.Board.{Board}
use Rattle.cha_moves.specs.Ends.{IsMated}
use Rattle.forced_graph.specs.Outcomes.{ComesUnshown}

-- Distinct positions, none a mate: the first is the root, and each later one comes from an earlier one.
pub record IsGrown (root : Board) (w : Color) (members : List Board) : Type 0 where
  pub distinct : AreDistinct members
  pub first : (q : Board) → slice_get members 0 ≡ Some q → q ≡ root
  pub later : (i : ℕ) (q : Board) → slice_get members (suc i) ≡ Some q → ComesUnshown members (suc i) w q
  pub running : (q : Board) → Contains members q → IsMated q (other_color w) → ⊥
