-- The shortest mates of a side (this project).
use Rattle.std.specs.Prelude.{ℕ, zero, suc, ◌+◌, ◌<◌, List, [], ◌∷◌, take, length, nat_lt}
use Rattle.cha_board.specs.declared.men.Color.{Color}
use Rattle.cha_board.specs.Board.{Board}
use Rattle.cha_moves.specs.Step.{Move}
use Rattle.cha_moves.specs.Ends.{IsMatingLine}
use Rattle.cha_moves.specs.MateLines.{mate_lines}
use Rattle.helpmate_list.specs.declared.answers.Shortest.{Shortest}
use Rattle.helpmate_list.specs.declared.answers.Shortest.TheVariants.{NoneWithin, Found}

-- how many lines an answer has at most
abbrev pub most_lines : ℕ
most_lines = 200

-- no list of fewer than n legal moves mates
unfoldable pub HasNoMateBelow : Board → Color → ℕ → Type 0
HasNoMateBelow q winner n = (ms : List Move) → length ms < n → IsMatingLine q winner ms → ⊥

-- these are all lines of n plies that mate: the first of them, and whether there are more, or what longer ones give
unfoldable pub found_or : ℕ → List (List Move) → Shortest → Shortest
found_or n [] longer = longer
found_or n (line ∷ lines) longer = Found n (take most_lines (line ∷ lines)) (nat_lt most_lines (length (line ∷ lines)))

-- the shortest mates of k numbers of plies, from n on
unfoldable pub shortest_from : ℕ → ℕ → Board → Color → Shortest
shortest_from zero n q winner = NoneWithin
shortest_from (suc k) n q winner = found_or n (mate_lines n q winner) (shortest_from k (n + 1) q winner)

-- the shortest mates of at most d plies
unfoldable pub shortest : Board → Color → ℕ → Shortest
shortest q winner d = shortest_from (d + 1) 0 q winner
