-- Lines of legal moves, and how many of them there are (this project).
use Rattle.std.specs.Prelude.{◌≡◌, ℕ, ◌≤◌, ⊤, List, [], ◌∷◌, length, Contains}
use Rattle.cha_list.specs.Distinct.{AreDistinct}
use Rattle.cha_board.specs.Board.{Board}
use Rattle.cha_moves.specs.Step.{Move}
use Rattle.cha_moves.specs.Moves.{after, legal}

-- each move is legal in its turn
unfoldable pub IsLegalLine : Board → List Move → Type 0
IsLegalLine q [] = ⊤
IsLegalLine q (m ∷ rest) = Contains (legal q) m × IsLegalLine (after q m) rest

-- there are n distinct legal lines of at most d moves
unfoldable pub HasLines : Board → ℕ → ℕ → Type 0
HasLines q d n =
    (lines : List (List Move)) × (length lines ≡ n) × AreDistinct lines
    × ((line : List Move) → Contains lines line → IsLegalLine q line × (length line ≤ d))

-- legal moves, one after another, lead from one position to another
unfoldable pub LeadTo : Board → List Move → Board → Type 0
LeadTo q [] r = q ≡ r
LeadTo q (m ∷ ms) r = Contains (legal q) m × LeadTo (after q m) ms r

-- n distinct positions can be reached by legal moves, the position itself among them
unfoldable pub HasPositions : Board → ℕ → Type 0
HasPositions q n =
    (members : List Board) × (length members ≡ n) × AreDistinct members
    × ((r : Board) → Contains members r → (ms : List Move) × LeadTo q ms r)
