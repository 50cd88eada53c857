-- The positions of an exploration, each with where it came from.
use Rattle.std.specs.Prelude.{◌≡◌, ℕ, zero, suc, Bool, true, List, [], ◌∷◌, map, Option, Some, slice_get, Contains}
use Rattle.cha_board.specs.Board.{Board}
use Rattle.cha_moves.specs.Step.{Move}
use Rattle.cha_moves.specs.Moves.{legal, after}
use Rattle.cha_moves.specs.Lines.{LeadTo}
use Rattle.node_store.specs.declared.origin.Origin.{Origin}

-- a position, where it came from (nothing for the root), and whether it is a leaf, which is never expanded
pub record Node : Type 0 where
  pub position : Board
  pub origin : Option Origin
  pub leaf : Bool

abbrev pub positions : List Node → List Board
positions nodes = map (λ n. n.position) nodes

abbrev pub leaves : List Node → List Bool
leaves nodes = map (λ n. n.leaf) nodes

-- where they came from
abbrev pub origins : List Node → List (Option Origin)
origins nodes = map (λ n. n.origin) nodes

-- the node of a name has this position
abbrev pub IsAt : List Node → ℕ → Board → Type 0
IsAt nodes name q = slice_get (positions nodes) name ≡ Some q

-- no node has this position
abbrev pub IsNew : List Node → Board → Type 0
IsNew nodes q = (name : ℕ) → IsAt nodes name q → ⊥

-- a legal move leads from one position to another
abbrev pub IsStep : Board → Move → Board → Type 0
IsStep p m q = Contains (legal p) m × (after p m ≡ q)

-- a legal move leads from the node of a name to a position
abbrev pub IsReached : List Node → ℕ → Move → Board → Type 0
IsReached nodes parent m q = (p : Board) × IsAt nodes parent p × IsStep p m q

-- legal moves, one after another, lead from the node of one name to that of another
abbrev pub IsPath : List Node → ℕ → List Move → ℕ → Type 0
IsPath nodes from ms to = (p : Board) × (q : Board) × IsAt nodes from p × IsAt nodes to q × LeadTo p ms q

-- the node of a name becomes a leaf
unfoldable pub mark : List Node → ℕ → List Node
mark [] name = []
mark (n ∷ ns) zero = record { position = n.position; origin = n.origin; leaf = true } ∷ ns
mark (n ∷ ns) (suc name) = n ∷ mark ns name
