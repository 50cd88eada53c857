use Rattle.std.proofs.Common.{◌≡◌, ℕ, ◌<◌, true}
use Rattle.cha_board.specs.SquareSets.{has_square}
use Rattle.cha_moves.specs.Ways.{is_way}
use Rattle.cha_moves.proofs.any.goes_somewhere.Given as goal

-- the squares that are left are ways
abbrev pub invariant-loop-to : goal.invariant-loop-to
invariant-loop-to l = (t : ℕ) → t < 64 → has_square l.to-iterator t ≡ true → is_way l.position l.from t ≡ true
