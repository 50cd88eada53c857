-- How many lines of legal moves begin in a position.
use Rattle.std.specs.Prelude.{◌≡◌, ◌≤◌, ◌^◌, ℕ, zero, suc, List, Option, Some, None}
use Rattle.std.specs.List.{sum_by}
use Rattle.cha_board.specs.Board.{Board}
use Rattle.cha_moves.specs.Step.{Move}
use Rattle.cha_moves.specs.Moves.{after, legal}

-- the number of lists of d moves, each legal in its turn (this project; known to programs as perft)
unfoldable pub lines_from : ℕ → Board → ℕ
lines_from zero q = 1
lines_from (suc d) q = sum_by (λ m. lines_from d (after q m)) (legal q)

-- the number of those that begin with one of these moves and have d more
unfoldable pub lines_with : ℕ → Board → List Move → ℕ
lines_with d q ms = sum_by (λ m. lines_from d (after q m)) ms

-- a count is this number, and there is none where the number passes 64 bits
abbrev pub Tells : Option ℕ → ℕ → Type 0
Tells None n = 2 ^ 64 ≤ n
Tells (Some count) n = count ≡ n
