-- The least closed sets.
use Rattle.cha_board.specs.Board.{Board}
use Rattle.mob_sets.specs.Mobility.{Sets, IsWithin}
use Rattle.mob_law.specs.Closed.{IsClosed}

-- closed sets that lie within all closed sets (this project)
pub record IsLeast (p : Board) (s : Sets) : Type 0 where
  pub closed : IsClosed p s
  pub inside : (r : Sets) → IsClosed p r → IsWithin s r
