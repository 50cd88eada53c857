-- Moves that change a position for good (this project).
use Rattle.std.specs.Prelude.{◌≢◌, ◌⊎◌, IsTrue, None}
use Rattle.cha_board.specs.Board.{Board}
use Rattle.cha_moves.specs.Step.{Move}
use Rattle.cha_moves.specs.Moves.{is_zeroing}

-- a capture or a pawn's move, or a castling right or an en passant target goes
unfoldable pub IsLasting : Board → Move → Board → Type 0
IsLasting before by next = IsTrue (is_zeroing before by) ⊎ (before.rights ≢ next.rights) ⊎ (before.target ≢ None)
