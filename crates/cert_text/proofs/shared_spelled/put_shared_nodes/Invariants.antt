use Rattle.std.proofs.Common.{◌≡◌, ℕ, ◌<◌, ◌++◌, take, get_or}
use Rattle.std.specs.List.{flat_map}
use Rattle.cha_cert.specs.declared.shared.SharedNode.{SharedNode}
use Rattle.cert_text.specs.Spelled.{lines_text}
use Rattle.cert_text.specs.SharedSpelled.{shared_node_lines}
use Rattle.cert_text.specs.Writable.{HasValidPosition}
use Rattle.cert_text.proofs.shared_spelled.put_shared_nodes.Given as goal

-- the nodes so far are written, and their positions are valid
abbrev pub invariant-loop-node : goal.invariant-loop-node
invariant-loop-node l = record {
  text : l.text ≡ l.initial.text ++ lines_text (flat_map shared_node_lines (take l.node-index l.nodes));
  valid : (k : ℕ) (d : SharedNode) → k < l.node-index → HasValidPosition (get_or l.nodes k d);
}
