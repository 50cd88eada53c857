-- Mate as a test, and the lists of legal moves that mate, in the order of moves.
use Rattle.std.specs.Prelude.{ℕ, zero, suc, Bool, true, false, ◌&&◌, if◌then◌else◌, List, [], ◌∷◌, map}
use Rattle.std.specs.List.{flat_map}
use Rattle.cha_board.specs.declared.men.Color.{Color}
use Rattle.cha_board.specs.Men.{other_color, same_color}
use Rattle.cha_board.specs.Board.{Board, in_check}
use Rattle.cha_moves.specs.Step.{Move}
use Rattle.cha_moves.specs.Moves.{after, legal}

-- there is no move
abbrev pub is_nil : List Move → Bool
is_nil [] = true
is_nil (m ∷ ms) = false

-- the loser is to move, its king is attacked, and it has no legal move (Laws of Chess, Article 5.1.1)
unfoldable pub is_mated : Board → Color → Bool
is_mated q loser = same_color q.side loser && in_check q.men loser && is_nil (legal q)

-- all lists of exactly n legal moves that mate for a winner, by their first move, then by their second, and so on
unfoldable pub mate_lines : ℕ → Board → Color → List (List Move)
mate_lines zero q winner = if is_mated q (other_color winner) then [] ∷ [] else []
mate_lines (suc n) q winner = flat_map (λ m. map (λ ms. m ∷ ms) (mate_lines n (after q m) winner)) (legal q)
