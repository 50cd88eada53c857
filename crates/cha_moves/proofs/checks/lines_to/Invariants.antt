use Rattle.std.proofs.Common.{◌≡◌, ℕ, ◌<◌, ◌⊎◌, true}
use Rattle.std.specs.List.{Contains}
use Rattle.cha_board.specs.Squares.{lies_between}
use Rattle.cha_board.specs.Board.{man_at}
use Rattle.cha_board.specs.SquareSets.{squares_in, has_square}
use Rattle.cha_moves.specs.Shields.{aims_as}
use Rattle.cha_moves.specs.Checks.{IsAlone}
use Rattle.cha_moves.proofs.checks.lines_to.Given as goal

-- a man that aims at the square is left, or what alone stands between is on the lines
abbrev pub invariant-loop-by : goal.invariant-loop-by
invariant-loop-by l = (u s : ℕ) → u < 64 → s < 64 → aims_as l.position.side l.king u (man_at l.position.men u) ≡ true → lies_between u l.king s ≡ true → IsAlone l.position.men u l.king s → Contains (squares_in l.by-iterator) u ⊎ (has_square l.lines s ≡ true)
