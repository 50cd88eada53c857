-- The nodes of an exploration and the names of those that wait.
use Rattle.std.specs.Prelude.{◌≡◌, ℕ, ◌<◌, false, List, length, Option, None, Some, slice_get}
use Rattle.cha_board.specs.Board.{Board, IsValid}
use Rattle.node_store.specs.declared.origin.Origin.{Origin}
use Rattle.node_store.specs.NameLists.{list_at, Has, Falls}
use Rattle.node_store.specs.Nodes.{Node, leaves, IsAt, IsReached}

-- the nodes, in the order of their names; 64 lists of the names that wait, each with the last that was added in front;
-- and for how many more nodes room was made ready
pub record Graph : Type 0 where
  pub nodes : List Node
  pub waiting : List (List ℕ)
  pub spare : ℕ

-- only the root comes from nothing; each other node comes from an earlier one by a legal move
unfoldable pub HasOrigin : List Node → ℕ → Board → Option Origin → Type 0
HasOrigin nodes name q None = name ≡ 0
HasOrigin nodes name q (Some origin) = (origin.parent < name) × IsReached nodes origin.parent origin.by q

-- What holds of every store.
pub record IsStore (nodes : List Node) (waiting : List (List ℕ)) : Type 0 where
  pub some : 0 < length nodes
  pub few : length nodes < 4294967296
  pub distinct : (i j : ℕ) (q : Board) → IsAt nodes i q → IsAt nodes j q → i ≡ j
  pub valid : (i : ℕ) (q : Board) → IsAt nodes i q → IsValid q
  pub origins : (i : ℕ) (node : Node) → slice_get nodes i ≡ Some node → HasOrigin nodes i node.position node.origin
  pub size : length waiting ≡ 64
  pub inner : (b n : ℕ) → Has (list_at waiting b) n → slice_get (leaves nodes) n ≡ Some false
  pub apart : (b c n : ℕ) → Has (list_at waiting b) n → Has (list_at waiting c) n → b ≡ c
  pub falls : (b : ℕ) → Falls (list_at waiting b)
