use Rattle.std.proofs.Common.{arith}
use Rattle.cert_text.specs.Writable.{IsWritable}
use Rattle.cert_text.proofs.Writing.{no_lines, node_more, kept_more}
use Rattle.cert_text.proofs.spelled.put_nodes.Goals as goal

pub loop-node-init : goal.loop-node-init
loop-node-init c = record { text = no_lines c.args.text.now; writable = λ k d less. absurd (omega (arith, less)) }

pub loop-node-preserved : goal.loop-node-preserved
loop-node-preserved c = record {
  text = node_more c.args.text.now c.loop-node.text _ c.args.nodes.now c.loop-node.node-index c.node-item.result c.loop-node-test.true c.node-item.is c.loop-node.invariant.text c.in_ok-put_node.ensures.text;
  writable = kept_more IsWritable c.args.nodes.now c.loop-node.node-index c.node-item.result c.loop-node-test.true c.node-item.is c.in_ok-put_node.ensures.writable c.loop-node.invariant.writable;
}
