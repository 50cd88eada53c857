-- Which certificates can be written, and which bytes are their texts.
use Rattle.std.specs.Prelude.{◌≡◌, ℕ, ◌<◌, ◌^◌, ⊤, List, length}
use Rattle.std.specs.List.{All}
use Rattle.cha_board.specs.declared.men.Color.{Color}
use Rattle.cha_board.specs.Board.{IsValid}
use Rattle.mob_sets.specs.Rows.{SetRows}
use Rattle.mob_sets.specs.Tidy.{AreTidy}
use Rattle.cha_cert.specs.declared.nodes.Node.{Node}
use Rattle.cha_cert.specs.declared.nodes.Part.{Part}
use Rattle.cha_cert.specs.declared.nodes.Part.TheVariants.{Inner, Leaf, Men}
use Rattle.cha_cert.specs.declared.shared.SharedNode.{SharedNode}
use Rattle.cha_cert.specs.Shared.{Shared, AreNamed}
use Rattle.cert_text.specs.Spelled.{cert_text}
use Rattle.cert_text.specs.SharedSpelled.{shared_text}

-- sets whose lines are read as those sets: the rows are tidy and on the board, and the loose origins are a set of squares
abbrev pub IsWritableSets : SetRows → Type 0
IsWritableSets sets = AreTidy sets.rows × All (λ row. row.origin < 64) sets.rows × (length sets.loose ≡ 64)

-- what a node of version 1 may say: it is an inner node, or a leaf whose sets can be written
abbrev pub IsWritablePart : Part → Type 0
IsWritablePart Inner = ⊤
IsWritablePart (Leaf sets) = IsWritableSets sets
IsWritablePart (Men reason) = ⊥

-- a node whose text is read as that node: its position is valid, and version 1 has lines for what it says
pub record IsWritable (node : Node) : Type 0 where
  pub position : IsValid node.position
  pub part : IsWritablePart node.part

-- bytes are the text of a certificate, which has nodes, not too many, each of which can be written
pub record IsCertText (w : Color) (nodes : List Node) (bytes : List ℕ) : Type 0 where
  pub spelled : cert_text w nodes ≡ bytes
  pub some : 0 < length nodes
  pub few : length nodes < 2 ^ 32
  pub writable : All IsWritable nodes

-- a node whose position is valid
abbrev pub HasValidPosition : SharedNode → Type 0
HasValidPosition node = IsValid node.position

-- bytes are the text of a shared certificate, which has nodes, not too many nodes or sets, leaves on sets that are there, valid
-- positions, and sets that can be written
pub record IsSharedText (w : Color) (c : Shared) (bytes : List ℕ) : Type 0 where
  pub spelled : shared_text w c ≡ bytes
  pub some : 0 < length c.nodes
  pub few : length c.nodes < 2 ^ 32
  pub few_sets : length c.sets < 2 ^ 32
  pub named : AreNamed c
  pub positions : All HasValidPosition c.nodes
  pub sets : All IsWritableSets c.sets
