-- What is kept of a node.
use Rattle.std.specs.Prelude.{◌≡◌, ℕ, List, map, length}
use Rattle.node_store.specs.declared.spot.Spot.{Spot}
use Rattle.node_store.specs.declared.origin.NodeMark.{NodeMark}
use Rattle.node_store.specs.Nodes.{Node}
use Rattle.node_store.specs.Graphs.{IsStore}

-- the node of a position and what is kept beside it
abbrev pub node_of : Spot × NodeMark → Node
node_of entry = record { position = entry.0.position; origin = entry.1.origin; leaf = entry.1.leaf }

abbrev pub nodes_of : List (Spot × NodeMark) → List Node
nodes_of entries = map node_of entries

-- what holds of the parts of a store
pub record AreStored (entries : List (Spot × NodeMark)) (waiting : List (List ℕ)) (named : ℕ) : Type 0 where
  pub store : IsStore (nodes_of entries) waiting
  pub slots : named ≡ length entries
