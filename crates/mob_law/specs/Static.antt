-- Positions whose mobility sets alone show that a side cannot mate.
use Rattle.cha_board.specs.declared.men.Color.{Color}
use Rattle.cha_board.specs.Board.{Board}
use Rattle.mob_sets.specs.Mobility.{Sets}
use Rattle.mob_law.specs.Closed.{IsClosed}
use Rattle.mob_law.specs.Threats.{HasNoMate}

-- statically unwinnable: some sets are closed and have no mate (this project)
abbrev pub IsStaticallyUnwinnable : Board → Color → Type 0
IsStaticallyUnwinnable p w = (s : Sets) × IsClosed p s × HasNoMate p s w
