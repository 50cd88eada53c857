-- Certificates in which equal sets are written once (this project).
use Rattle.std.specs.Prelude.{◌≡◌, ⊤, ℕ, ◌<◌, ◌≤◌, ◌==◌, ◌&&◌, Bool, true, false, not, List, [], ◌∷◌, ◌++◌, map, length, slice_index_or, slice_get, position, Option, Some, None}
use Rattle.std.specs.List.{All, fold}
use lib.Pointwise.{pointwise}
use Rattle.cha_list.specs.Distinct.{AreDistinct}
use Rattle.cha_board.specs.Board.{Board}
use Rattle.cha_board.specs.Men.{same_kind}
use Rattle.cha_board.specs.SquareSets.{empty_set}
use Rattle.mob_sets.specs.Rows.{Row, SetRows}
use Rattle.cha_cert.specs.declared.nodes.Node.{Node}
use Rattle.cha_cert.specs.declared.nodes.Part.{Part}
use Rattle.cha_cert.specs.declared.nodes.Part.TheVariants.{Inner, Leaf, Men}
use Rattle.cha_cert.specs.declared.shared.SharedNode.{SharedNode}
use Rattle.cha_cert.specs.declared.shared.SharedPart.{SharedPart}
use Rattle.cha_cert.specs.declared.shared.SharedPart.TheVariants.{Inner as SharedInner, Leaf as SharedLeaf, Men as SharedMen}

-- a list of sets, and nodes whose leaves name them by their numbers
pub record Shared : Type 0 where
  pub sets : List SetRows
  pub nodes : List SharedNode

-- a leaf names one of so many sets
abbrev pub Names : ℕ → SharedPart → Type 0
Names n SharedInner = ⊤
Names n (SharedLeaf i) = i < n
Names n (SharedMen reason) = ⊤

-- each leaf names sets that are there
abbrev pub AreNamed : Shared → Type 0
AreNamed c = All (λ node. Names (length c.sets) node.part) c.nodes

-- sets in which nothing is in reach
abbrev pub no_sets : SetRows
no_sets = record { rows = []; loose = empty_set }

-- the part of a node that has its own sets
abbrev pub part_of : List SetRows → SharedPart → Part
part_of sets SharedInner = Inner
part_of sets (SharedLeaf i) = Leaf (slice_index_or sets i no_sets)
part_of sets (SharedMen reason) = Men reason

abbrev pub node_of : List SetRows → SharedNode → Node
node_of sets node = record { position = node.position; part = part_of sets node.part }

-- the expansion: the list of the nodes, each leaf with the sets that it names
abbrev pub expansion : Shared → List Node
expansion c = map (λ node. node_of c.sets node) c.nodes

-- the sets of number i are named first by a node before which all leaves name sets of lower numbers
pub record IsFirstNamed (nodes : List SharedNode) (i : ℕ) : Type 0 where
  pub at : ℕ
  pub node : SharedNode
  pub there : slice_get nodes at ≡ Some node
  pub names : node.part ≡ SharedLeaf i
  pub before : (j : ℕ) (earlier : SharedNode) → j < at → slice_get nodes j ≡ Some earlier → Names i earlier.part

-- The sets are distinct, each is named, and they stand in the order in which they are named first.
pub record AreInOrder (c : Shared) : Type 0 where
  pub distinct : AreDistinct c.sets
  pub first : (i : ℕ) → i < length c.sets → IsFirstNamed c.nodes i

-- whether sets are equal, as a test: their rows and their loose origins are
abbrev pub same_bit : Bool → Bool → Bool
same_bit true b = b
same_bit false b = not b

abbrev pub same_squares : List Bool → List Bool → Bool
same_squares a b = pointwise same_bit a b

abbrev pub same_row : Row → Row → Bool
same_row a b = (a.origin == b.origin) && (same_kind a.kind b.kind && same_squares a.squares b.squares)

abbrev pub same_sets : SetRows → SetRows → Bool
same_sets a b = pointwise same_row a.rows b.rows && same_squares a.loose b.loose

-- the number of the first of some sets that equal others, if any do
unfoldable pub number_in : List SetRows → SetRows → Option ℕ
number_in all s = position (λ t. same_sets t s) all

-- One more node behind shared ones: a leaf names the first of the sets that equal its own, which are appended where none do.
abbrev pub leaf_added : Shared → Board → SetRows → Option ℕ → Shared
leaf_added c q s (Some i) = record { sets = c.sets; nodes = c.nodes ++ (record { position = q; part = SharedLeaf i }) ∷ [] }
leaf_added c q s None = record { sets = c.sets ++ s ∷ []; nodes = c.nodes ++ (record { position = q; part = SharedLeaf (length c.sets) }) ∷ [] }

abbrev pub part_added : Shared → Board → Part → Shared
part_added c q Inner = record { sets = c.sets; nodes = c.nodes ++ (record { position = q; part = SharedInner }) ∷ [] }
part_added c q (Men reason) = record { sets = c.sets; nodes = c.nodes ++ (record { position = q; part = SharedMen reason }) ∷ [] }
part_added c q (Leaf s) = leaf_added c q s (number_in c.sets s)

-- the nodes with their equal sets written once
unfoldable pub shared_of : List Node → Shared
shared_of nodes = fold (λ (c : Shared) (node : Node). part_added c node.position node.part) (record { sets = []; nodes = [] }) nodes

-- a shared certificate says what so many nodes say, its sets in order
pub record Shares (c : Shared) (nodes : List Node) : Type 0 where
  pub named : AreNamed c
  pub few : length c.sets ≤ length c.nodes
  pub expands : expansion c ≡ nodes
  pub order : AreInOrder c

-- a list has an element at a place
pub record IsAt {X : Type 0} (xs : List X) (x : X) (i : ℕ) : Type 0 where
  pub inside : i < length xs
  pub same : (d : X) → slice_index_or xs i d ≡ x
