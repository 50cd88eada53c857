use Rattle.std.specs.List.{Contains}
use Rattle.cha_board.specs.SquareSets.{squares_in}
use Rattle.cha_moves.specs.Step.{Move}
use Rattle.cha_moves.proofs.MateMoves.{Mates}
use Rattle.cha_moves.proofs.mating.mating_move.Given as goal

-- each move that mates leaves a square that is left
abbrev pub invariant-loop-from : goal.invariant-loop-from
invariant-loop-from l = (m : Move) → Mates l.position l.winner m → Contains (squares_in l.from-iterator) m.from
