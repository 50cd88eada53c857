use Rattle.std.proofs.Common.{◌≡◌, ℕ, ◌<◌, take, map, get_or}
use Rattle.cha_board.specs.Board.{IsValid}
use Rattle.cha_cert.specs.declared.shared.SharedNode.{SharedNode}
use Rattle.cha_cert.specs.Indexed.{places_from}
use Rattle.cha_cert.proofs.indexing.places_of_shared.Given as goal

-- the nodes so far have their places, and their positions are valid
abbrev pub invariant-loop-number : goal.invariant-loop-number
invariant-loop-number l = record {
  places : l.places.items ≡ places_from 0 (map (λ (node : SharedNode). node.position) (take l.number l.nodes));
  valid : (k : ℕ) (d : SharedNode) → k < l.number → IsValid (get_or l.nodes k d).position;
}
