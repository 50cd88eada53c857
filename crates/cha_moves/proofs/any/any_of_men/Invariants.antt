use Rattle.std.proofs.Common.{◌≡◌}
use Rattle.std.specs.List.{filter, flat_map}
use Rattle.cha_board.specs.SquareSets.{squares_in}
use Rattle.cha_moves.specs.Moves.{is_legal_in, moves_from, legal}
use Rattle.cha_moves.proofs.any.any_of_men.Given as goal

-- the legal moves are those from the squares that are left
abbrev pub invariant-loop-from : goal.invariant-loop-from
invariant-loop-from l = legal l.position ≡ filter (is_legal_in l.position) (flat_map moves_from (squares_in l.from-iterator))
