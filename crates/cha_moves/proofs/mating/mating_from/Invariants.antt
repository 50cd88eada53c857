use Rattle.std.proofs.Common.{◌≡◌}
use Rattle.std.specs.List.{Contains}
use Rattle.cha_board.specs.SquareSets.{squares_in}
use Rattle.cha_moves.specs.Step.{Move}
use Rattle.cha_moves.proofs.MateMoves.{Mates}
use Rattle.cha_moves.proofs.mating.mating_from.Given as goal

-- each move that mates goes to a square that is left
abbrev pub invariant-loop-to : goal.invariant-loop-to
invariant-loop-to l = (m : Move) → Mates l.position l.winner m → m.from ≡ l.from → Contains (squares_in l.to-iterator) m.to
