use Rattle.std.proofs.Common.{◌≡◌, ◌+◌, ℕ, Some, length}
use Rattle.std.specs.List.{Contains}
use Rattle.cha_board.specs.Board.{man_at}
use Rattle.cha_board.specs.SquareSets.{squares_in}
use Rattle.cha_moves.proofs.ByKind.{legal_from, men_of}
use Rattle.cha_moves.proofs.count.count_kind.Given as goal

-- the moves that are counted and those from the squares that are left are all of the kind, and on each square that is left such a
-- man stands
abbrev pub invariant-loop-from : goal.invariant-loop-from
invariant-loop-from l = record {
  so_far : l.count + length (legal_from l.position (squares_in l.from-iterator)) ≡ length (legal_from l.position (squares_in (men_of l.position l.side l.kind)));
  men : (t : ℕ) → Contains (squares_in l.from-iterator) t → man_at l.position.men t ≡ Some (record { color = l.side; kind = l.kind });
}
