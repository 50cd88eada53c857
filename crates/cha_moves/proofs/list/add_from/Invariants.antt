use Rattle.std.proofs.Common.{◌≡◌, ◌++◌, ℕ, true}
use Rattle.std.specs.List.{Contains, filter, flat_map}
use Rattle.cha_board.specs.SquareSets.{squares_in}
use Rattle.cha_moves.specs.Moves.{is_legal_in, moves_between, moves_from}
use Rattle.cha_moves.specs.Shields.{goes_legally}
use Rattle.cha_moves.proofs.list.add_from.Given as goal

-- the moves so far and those to the squares that are left are all of the square, and to each square that is left the man goes legally
abbrev pub invariant-loop-to : goal.invariant-loop-to
invariant-loop-to l = record {
  so_far : l.moves.items ++ filter (is_legal_in l.position) (flat_map (moves_between l.from) (squares_in l.to-iterator)) ≡ l.fn.moves.items ++ filter (is_legal_in l.position) (moves_from l.from);
  ways : (t : ℕ) → Contains (squares_in l.to-iterator) t → goes_legally l.position l.from t ≡ true;
}
