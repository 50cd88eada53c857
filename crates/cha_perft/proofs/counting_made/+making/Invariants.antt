use Rattle.std.proofs.Common.{◌≡◌, ◌+◌, ◌-◌, ◌*◌, ℕ, Some, true, length}
use Rattle.std.specs.List.{Contains, filter, flat_map}
use Rattle.cha_board.specs.Board.{man_at}
use Rattle.cha_board.specs.SquareSets.{squares_in}
use Rattle.cha_moves.specs.Moves.{is_legal_in, moves_between, moves_from}
use Rattle.cha_moves.specs.Shields.{goes_legally}
use Rattle.cha_moves.proofs.ByKind.{legal_from, men_of}
use Rattle.cha_perft.specs.Counts.{lines_with}
use Rattle.cha_perft.proofs.counting_made.+making.Given as goal

abbrev pub decreases-count_made : goal.decreases-count_made
decreases-count_made l = 10 * l.depth + 1

abbrev pub decreases-made_all : goal.decreases-made_all
decreases-made_all l = 10 * l.depth

abbrev pub decreases-made_by_white : goal.decreases-made_by_white
decreases-made_by_white l = 10 * l.depth + 9

abbrev pub decreases-made_by_black : goal.decreases-made_by_black
decreases-made_by_black l = 10 * l.depth + 9

abbrev pub decreases-made_kind : goal.decreases-made_kind
decreases-made_kind l = 10 * l.depth + 7

abbrev pub decreases-made_by : goal.decreases-made_by
decreases-made_by l = 10 * l.depth + 6

abbrev pub decreases-made_way : goal.decreases-made_way
decreases-made_way l = 10 * l.depth + 5

abbrev pub decreases-made_promoted : goal.decreases-made_promoted
decreases-made_promoted l = 10 * l.depth + 4

abbrev pub decreases-made_move : goal.decreases-made_move
decreases-made_move l = 10 * l.depth + 3

abbrev pub decreases-made_kind-loop-from : goal.decreases-made_kind-loop-from
decreases-made_kind-loop-from l = length (squares_in l.left)

abbrev pub decreases-made_by-loop-to : goal.decreases-made_by-loop-to
decreases-made_by-loop-to l = length (squares_in l.left)

-- the lines counted and those of the men that are left are all, and on each square that is left such a man stands
abbrev pub invariant-made_kind-loop-from : goal.invariant-made_kind-loop-from
invariant-made_kind-loop-from l = record {
  so_far : l.total + lines_with l.depth l.position (legal_from l.position (squares_in l.left)) ≡ l.before + lines_with l.depth l.position (legal_from l.position (squares_in (men_of l.position l.side l.kind)));
  men : (t : ℕ) → Contains (squares_in l.left) t → man_at l.position.men t ≡ Some (record { color = l.side; kind = l.kind });
}

-- the lines counted and those to the squares that are left are all of the square, and to each square that is left the man goes legally
abbrev pub invariant-made_by-loop-to : goal.invariant-made_by-loop-to
invariant-made_by-loop-to l = record {
  so_far : l.total + lines_with l.depth l.position (filter (is_legal_in l.position) (flat_map (moves_between l.from) (squares_in l.left))) ≡ l.before + lines_with l.depth l.position (filter (is_legal_in l.position) (moves_from l.from));
  ways : (t : ℕ) → Contains (squares_in l.left) t → goes_legally l.position l.from t ≡ true;
}
