-- What is known of the positions that an exploration has met.
use Rattle.std.specs.Prelude.{◌≡◌, ℕ, ◌<◌, ◌⊎◌, List, [], ◌∷◌, ◌++◌, length, Some, false, IsTrue, slice_get, Contains}
use Rattle.cha_board.specs.declared.men.Color.{Color}
use Rattle.cha_board.specs.Men.{other_color}
use Rattle.cha_board.specs.Board.{Board}
use Rattle.cha_moves.specs.Step.{Move}
use Rattle.cha_moves.specs.Moves.{after, legal, is_zeroing}
use Rattle.cha_moves.specs.Ends.{IsMated}
use Rattle.cha_cert.specs.declared.nodes.Node.{Node as CertNode}
use Rattle.cha_cert.specs.declared.nodes.Part.{Part}
use Rattle.cha_cert.specs.declared.nodes.Part.TheVariants.{Inner}
use Rattle.cha_cert.specs.AtOnce.{IsShownAtOnce}
use Rattle.cha_cert.specs.Certificates.{IsLeaf}
use Rattle.node_store.specs.declared.origin.Origin.{Origin}
use Rattle.node_store.specs.NameLists.{list_at, Has, put}
use Rattle.node_store.specs.Nodes.{Node, positions, origins, IsAt, IsNew}
use Rattle.forced_graph.specs.declared.region.Region.{Region}
use Rattle.forced_graph.specs.Grown.{IsGrown}

-- a name waits in some list
unfoldable pub Waits : List (List ℕ) → ℕ → Type 0
Waits waiting name = (b : ℕ) × Has (list_at waiting b) name

-- by its part alone the node of a name is one from which no series of legal moves mates
unfoldable pub IsLeafPart : List Node → ℕ → Color → Part → Type 0
IsLeafPart nodes name w part = (q : Board) → IsAt nodes name q → IsLeaf w q part

-- where a capture or a pawn's move led to a node, nothing shows at once that w cannot mate
unfoldable pub IsUnshown : List Node → ℕ → Color → Type 0
IsUnshown nodes name w = (o : Origin) (p q : Board) → slice_get (origins nodes) name ≡ Some (Some o) → IsAt nodes o.parent p → IsAt nodes name q
    → IsTrue (is_zeroing p o.by) → IsShownAtOnce q w → ⊥

-- a node waits, or was expanded, or is a leaf
unfoldable pub IsSettled : Color → List (List ℕ) → List Board → ℕ → Board → Part → Type 0
IsSettled w waiting members name q part = Waits waiting name ⊎ (Contains members q × (part ≡ Inner)) ⊎ IsLeaf w q part

-- and so does each node but one that was taken
abbrev pub AreSettledBut : ℕ → Color → List Node → List (List ℕ) → List Part → List Board → Type 0
AreSettledBut taken w nodes waiting parts members =
    (i : ℕ) (q : Board) (part : Part) → (i ≡ taken → ⊥) → IsAt nodes i q → slice_get parts i ≡ Some part → IsSettled w waiting members i q part

abbrev pub AreSettled : Color → List Node → List (List ℕ) → List Part → List Board → Type 0
AreSettled w nodes waiting parts members =
    (i : ℕ) (q : Board) (part : Part) → IsAt nodes i q → slice_get parts i ≡ Some part → IsSettled w waiting members i q part

-- a move leads to a node, and not to a mate
pub record IsLed (nodes : List Node) (w : Color) (q : Board) (m : Move) : Type 0 where
  pub met : Contains (positions nodes) (after q m)
  pub running : IsMated (after q m) (other_color w) → ⊥

-- and so does each of some moves
unfoldable pub AreLed : List Node → Color → Board → List Move → Type 0
AreLed nodes w q ms = (m : Move) → Contains ms m → IsLed nodes w q m

-- and each legal move from each of some positions
unfoldable pub AreExpanded : List Node → Color → List Board → Type 0
AreExpanded nodes w members = (q : Board) → Contains members q → AreLed nodes w q (legal q)

-- The nodes, with the positions among them that were expanded.
pub record IsMap (root : Board) (w : Color) (nodes : List Node) (waiting : List (List ℕ)) (parts : List Part) (members : List Board) : Type 0 where
  pub size : length parts ≡ length nodes
  pub begins : IsAt nodes 0 root
  pub running : (i : ℕ) (q : Board) → IsAt nodes i q → IsMated q (other_color w) → ⊥
  pub placed : (q : Board) → Contains members q → Contains (positions nodes) q
  pub inner : (i : ℕ) (part : Part) → Waits waiting i → slice_get parts i ≡ Some part → part ≡ Inner
  pub fresh : (i : ℕ) (q : Board) → Waits waiting i → IsAt nodes i q → Contains members q → ⊥
  pub parents : (i : ℕ) (o : Origin) → slice_get (origins nodes) i ≡ Some (Some o) → (p : Board) × IsAt nodes o.parent p × Contains members p

-- Between two steps.
pub record Between (root : Board) (w : Color) (count : ℕ) (nodes : List Node) (waiting : List (List ℕ)) (parts : List Part) : Type 0 where
  pub members : List Board
  pub size : length members ≡ count
  pub grown : IsGrown root w members
  pub map : IsMap root w nodes waiting parts members
  pub settled : AreSettled w nodes waiting parts members
  pub expanded : AreExpanded nodes w members

-- A node was taken, and nothing was done with it yet.
pub record Popped (name : ℕ) (root : Board) (w : Color) (count : ℕ) (nodes : List Node) (waiting : List (List ℕ)) (parts : List Part) : Type 0 where
  pub members : List Board
  pub size : length members ≡ count
  pub grown : IsGrown root w members
  pub map : IsMap root w nodes waiting parts members
  pub settled : AreSettledBut name w nodes waiting parts members
  pub expanded : AreExpanded nodes w members
  pub within : name < length nodes
  pub part : (part : Part) → slice_get parts name ≡ Some part → part ≡ Inner
  pub here : Board
  pub is_here : IsAt nodes name here
  pub new : Contains members here → ⊥
  pub taken : (b : ℕ) → Has (list_at waiting b) name → ⊥

-- A node was taken that is no leaf, and some of its moves were tried.
pub record Expanding (name : ℕ) (tried : List Move) (root : Board) (w : Color) (count : ℕ) (nodes : List Node) (waiting : List (List ℕ)) (parts : List Part) : Type 0 where
  pub members : List Board
  pub size : length members ≡ count
  pub before : IsGrown root w members
  pub here : Board
  pub is_here : IsAt nodes name here
  pub grown : IsGrown root w (members ++ here ∷ [])
  pub map : IsMap root w nodes waiting parts (members ++ here ∷ [])
  pub settled : AreSettled w nodes waiting parts (members ++ here ∷ [])
  pub expanded : AreExpanded nodes w members
  pub led : AreLed nodes w here tried

-- a region is so
abbrev pub IsBetween : Region → Type 0
IsBetween s = Between s.root s.winner s.count s.store.nodes s.store.waiting s.parts.items

abbrev pub IsPopped : ℕ → Region → Type 0
IsPopped name s = Popped name s.root s.winner s.count s.store.nodes s.store.waiting s.parts.items

abbrev pub IsExpanding : ℕ → List Move → Region → Type 0
IsExpanding name tried s = Expanding name tried s.root s.winner s.count s.store.nodes s.store.waiting s.parts.items

-- nothing waits
abbrev pub IsDone : Region → Type 0
IsDone s = IsBetween s × ((name : ℕ) → Waits s.store.waiting name → ⊥)

-- a position was a node already, and nothing changed; or it became one that waits
unfoldable pub IsMet : Region → Region → ℕ → Move → Board → Type 0
IsMet old new parent by q =
    (Contains (positions old.store.nodes) q × (new.store.nodes ≡ old.store.nodes) × (new.store.waiting ≡ old.store.waiting) × (new.parts.items ≡ old.parts.items))
    ⊎ (IsNew old.store.nodes q × (b : ℕ) × (b < length old.store.waiting) × (new.store.waiting ≡ put old.store.waiting b (length old.store.nodes))
    × (new.store.nodes ≡ old.store.nodes ++ record { position = q; origin = Some (record { parent = parent; by = by }); leaf = false } ∷ []) × (new.parts.items ≡ old.parts.items ++ Inner ∷ []))

-- the position and the side that an exploration is for
abbrev pub IsTaskOf : Board → Color → Region → Type 0
IsTaskOf root w s = (s.root ≡ root) × (s.winner ≡ w)

-- the same task, and as many positions expanded
abbrev pub IsSameTask : Region → Region → Type 0
IsSameTask old new = (new.root ≡ old.root) × (new.winner ≡ old.winner) × (new.count ≡ old.count)

-- the nodes of a certificate, from their positions and parts
abbrev pub certified : List Board → List Part → List CertNode
certified [] parts = []
certified (q ∷ qs) [] = []
certified (q ∷ qs) (part ∷ parts) = record { position = q; part = part } ∷ certified qs parts
