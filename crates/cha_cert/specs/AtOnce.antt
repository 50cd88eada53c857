-- Positions of which it is seen without any search that a side cannot mate (this project).
use Rattle.cha_board.specs.declared.men.Color.{Color}
use Rattle.cha_board.specs.Board.{Board}
use Rattle.mob_law.specs.Static.{IsStaticallyUnwinnable}
use Rattle.mob_small.specs.declared.reasons.Reason.{Reason}
use Rattle.mob_small.specs.Reasons.{ReasonHolds}

-- a side is shown unable to mate without a search
pub data IsShownAtOnce (q : Board) (winner : Color) : Type 0 where
  -- by closed mobility sets without a mate,
  BySets : IsStaticallyUnwinnable q winner → IsShownAtOnce q winner
  -- or by the men alone
  ByMen : (reason : Reason) → ReasonHolds q winner reason → IsShownAtOnce q winner
