use Rattle.std.proofs.Common.{arith}
use Rattle.cert_text.specs.SharedSpelled.{shared_node_lines}
use Rattle.cert_text.specs.Writable.{HasValidPosition}
use Rattle.cert_text.proofs.Writing.{no_lines, kept_more}
use Rattle.cert_text.proofs.SharedWriting.{item_more}
use Rattle.cert_text.proofs.shared_spelled.put_shared_nodes.Goals as goal

pub loop-node-init : goal.loop-node-init
loop-node-init c = record { text = no_lines c.args.text.now; valid = λ k d less. absurd (omega (arith, less)) }

pub loop-node-preserved : goal.loop-node-preserved
loop-node-preserved c = record {
  text =
      item_more shared_node_lines c.args.text.now c.loop-node.text c.put_shared_node.new.text c.args.nodes.now c.loop-node.node-index c.node-item.result c.loop-node-test.true c.node-item.is c.loop-node.invariant.text c.in_ok-put_shared_node.ensures.text;
  valid = kept_more HasValidPosition c.args.nodes.now c.loop-node.node-index c.node-item.result c.loop-node-test.true c.node-item.is c.in_ok-put_shared_node.ensures.valid c.loop-node.invariant.valid;
}
