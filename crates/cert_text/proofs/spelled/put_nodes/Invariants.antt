use Rattle.std.proofs.Common.{◌≡◌, ℕ, ◌<◌, ◌++◌, take, get_or}
use Rattle.std.specs.List.{flat_map}
use Rattle.cha_cert.specs.declared.nodes.Node.{Node}
use Rattle.cert_text.specs.Spelled.{node_lines, lines_text}
use Rattle.cert_text.specs.Writable.{IsWritable}
use Rattle.cert_text.proofs.spelled.put_nodes.Given as goal

-- the nodes so far are written, and can be
abbrev pub invariant-loop-node : goal.invariant-loop-node
invariant-loop-node l = record {
  text : l.text ≡ l.initial.text ++ lines_text (flat_map node_lines (take l.node-index l.nodes));
  writable : (k : ℕ) (d : Node) → k < l.node-index → IsWritable (get_or l.nodes k d);
}
