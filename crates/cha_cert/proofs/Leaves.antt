-- Nodes that show by their part alone that a side cannot mate.
use Rattle.std.proofs.Common.{◌≡◌, List}
use Rattle.cha_board.specs.declared.men.Color.{Color}
use Rattle.cha_board.specs.Board.{Board}
use Rattle.cha_cert.specs.declared.nodes.Node.{Node}
use Rattle.cha_cert.specs.declared.nodes.Part.{Part}
use Rattle.cha_cert.specs.declared.nodes.Part.TheVariants.{Inner, Leaf, Men}
use Rattle.cha_cert.specs.Certificates.{IsLeaf, PartHolds}

-- each holds, whatever other nodes there are
pub leaf_holds : (w : Color) (nodes : List Node) (q : Board) (part : Part) → IsLeaf w q part → PartHolds w nodes q part
unfolding IsLeaf
leaf_holds w nodes q Inner leaf = absurd leaf
leaf_holds w nodes q (Leaf sets) leaf = leaf
leaf_holds w nodes q (Men reason) leaf = leaf

-- an inner node is no leaf
pub not_inner : (w : Color) (q : Board) (part : Part) → IsLeaf w q part → part ≡ Inner → ⊥
unfolding IsLeaf
not_inner w q Inner leaf is = leaf
not_inner w q (Leaf sets) leaf is = cc
not_inner w q (Men reason) leaf is = cc
