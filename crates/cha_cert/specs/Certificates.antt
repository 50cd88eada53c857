-- Which certificates are valid: that no series of legal moves mates for a side (this project).
use Rattle.std.specs.Prelude.{◌≡◌, ℕ, ◌<◌, List, [], ◌∷◌, map, length, max, slice_index_or, Option, Some, None}
use Rattle.std.specs.List.{All, Contains}
use Rattle.cha_board.specs.declared.men.Color.{Color}
use Rattle.cha_board.specs.Men.{other_color}
use Rattle.cha_board.specs.Board.{Board, IsValid}
use Rattle.cha_moves.specs.Step.{Move}
use Rattle.cha_moves.specs.Moves.{after, legal}
use Rattle.cha_moves.specs.Ends.{IsMated}
use Rattle.mob_law.specs.Closed.{IsClosed}
use Rattle.mob_law.specs.Threats.{HasNoMate}
use Rattle.mob_sets.specs.Rows.{SetRows, sets_of}
use Rattle.mob_small.specs.Reasons.{ReasonHolds}
use Rattle.cha_cert.specs.declared.nodes.Node.{Node}
use Rattle.cha_cert.specs.declared.nodes.Part.{Part}
use Rattle.cha_cert.specs.declared.nodes.Part.TheVariants.{Inner, Leaf, Men}
use Rattle.cha_cert.specs.declared.checking.Checked.{Checked}
use Rattle.cha_cert.specs.declared.checking.Checked.TheVariants.{Accepted, Fails}

-- the positions of the nodes
abbrev pub positions_of : List Node → List Board
positions_of nodes = map (λ node. node.position) nodes

-- an inner node on q: q is no mate for w, and each legal move leads to the position of some node
pub record InnerHolds (w : Color) (nodes : List Node) (q : Board) : Type 0 where
  pub no_mate : IsMated q (other_color w) → ⊥
  pub leads : (m : Move) → Contains (legal q) m → Contains (positions_of nodes) (after q m)

-- a leaf on q: the sets are closed for q and have no mate for w
pub record LeafHolds (w : Color) (q : Board) (sets : SetRows) : Type 0 where
  pub closed : IsClosed q (sets_of sets)
  pub no_mate : HasNoMate q (sets_of sets) w

-- by its part alone a position is one from which no series of legal moves mates
unfoldable pub IsLeaf : Color → Board → Part → Type 0
IsLeaf w q Inner = ⊥
IsLeaf w q (Leaf sets) = LeafHolds w q sets
IsLeaf w q (Men reason) = ReasonHolds q w reason

-- what a node's part says of its position holds
abbrev pub PartHolds : Color → List Node → Board → Part → Type 0
PartHolds w nodes q Inner = InnerHolds w nodes q
PartHolds w nodes q (Leaf sets) = LeafHolds w q sets
PartHolds w nodes q (Men reason) = ReasonHolds q w reason

abbrev pub NodeHolds : Color → List Node → Node → Type 0
NodeHolds w nodes node = PartHolds w nodes node.position node.part

-- the first node has the position p
abbrev pub BeginsAt : Board → List Node → Type 0
BeginsAt p [] = ⊥
BeginsAt p (node ∷ nodes) = node.position ≡ p

-- each node's position is valid
abbrev pub AllValid : List Node → Type 0
AllValid nodes = All (λ node. IsValid node.position) nodes

-- A valid certificate that no series of legal moves from p mates for w. Nodes may lead to each other in a circle, and
-- positions may stand there twice.
pub record IsValidCert (p : Board) (w : Color) (nodes : List Node) : Type 0 where
  pub begins : BeginsAt p nodes
  pub positions : AllValid nodes
  pub holds : All (NodeHolds w nodes) nodes

-- the node of number i is there and holds, and the first has the position p
pub record IsInOrder (p : Board) (w : Color) (nodes : List Node) (i : ℕ) : Type 0 where
  pub inside : i < length nodes
  pub begins : i ≡ 0 → BeginsAt p nodes
  pub holds : (d : Node) → NodeHolds w nodes (slice_index_or nodes i d)

-- the node of number i is the first that is not in order; where there are no nodes, 0 is
pub record FailsFirst (p : Board) (w : Color) (nodes : List Node) (i : ℕ) : Type 0 where
  pub below : i < max 1 (length nodes)
  pub before : (j : ℕ) → j < i → IsInOrder p w nodes j
  pub fails : IsInOrder p w nodes i → ⊥

-- what a check answers: that the certificate is valid, or which node fails first
abbrev pub Answers : Board → Color → List Node → Checked → Type 0
Answers p w nodes Accepted = IsValidCert p w nodes
Answers p w nodes (Fails i) = FailsFirst p w nodes i

-- the number of the first item that fails P; none, where each passes it
abbrev pub FirstFailing : {X : Type 0} → (X → Type 0) → List X → Option ℕ → Type 0
FirstFailing P xs None = All P xs
FirstFailing {X} P xs (Some i) =
    (i < length xs) × ((j : ℕ) (d : X) → j < i → P (slice_index_or xs j d)) × ((d : X) → P (slice_index_or xs i d) → ⊥)
