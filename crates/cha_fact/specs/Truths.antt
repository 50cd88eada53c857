-- What is known of a position and a side, and when it is true (this project).
use Rattle.std.specs.Prelude.{ℕ, ◌-◌, Bool, true, false, List, [], length}
use Rattle.cha_board.specs.declared.men.Color.{Color}
use Rattle.cha_board.specs.Board.{Board}
use Rattle.cha_moves.specs.Step.{Move}
use Rattle.cha_moves.specs.Ends.{IsMatingLine, HasNoMateWithin}
use Rattle.cha_fact.specs.declared.fact.Fact.{Fact}
use Rattle.cha_fact.specs.declared.fact.Fact.TheVariants.{Mate, NoneWithin}

-- A position, a side, and what is said of them.
pub record Claim : Type 0 where
  pub position : Board
  pub winner : Color
  pub fact : Fact

-- a fact is true of a position and a side
abbrev pub IsTrueOf : Board → Color → Fact → Type 0
IsTrueOf q winner (Mate line) = IsMatingLine q winner line
IsTrueOf q winner (NoneWithin depth) = HasNoMateWithin q winner depth

-- the fact is a mate
abbrev pub is_mate : Fact → Bool
is_mate (Mate line) = true
is_mate (NoneWithin depth) = false

-- the line of a mate
abbrev pub line_of : Fact → List Move
line_of (Mate line) = line
line_of (NoneWithin depth) = []

-- how much a fact says
abbrev pub rank_of : Fact → ℕ
rank_of (Mate line) = 1000 - length line
rank_of (NoneWithin depth) = depth
