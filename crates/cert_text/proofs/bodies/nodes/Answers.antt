use Rattle.std.proofs.lemmas.Grind.{common_steps}
use Rattle.std.proofs.Common.{rules, ◌-◌, ◌+◌, drop, ◌∙◌, sym, ap, subst, arith}
use Rattle.cha_cert.specs.Shared.{expansion}
use Rattle.cert_text.specs.TextLines.{lines_of, tail_of}
use Rattle.cert_text.specs.Texts.{nodes_after}
use Rattle.cert_text.specs.Agreeing.{Agrees, seen}
use Rattle.cert_text.specs.Spelled.{AreInnerOrLeaves}
use Rattle.cert_text.proofs.Going.{node_goes, node_first, nodes_done, inner_or_leaf_more}
use Rattle.cert_text.proofs.bodies.nodes.Goals as goal

pub returns-in_err-node-clause-said : goal.returns-in_err-node-clause-said
returns-in_err-node-clause-said c =
    let bytes = c.args.bytes.now in
    let whole =
    node_first (tail_of (drop c.loop-read.left.at bytes)) (tail_of (drop c.args.left.at bytes)) _ (expansion c.loop-read.cert) (c.args.count - (c.loop-read._read + 1)) (c.args.count - c.loop-read._read) c.loop-read.left.number _
    c.loop-read.invariant.tail (omega arith) c.loop-read.invariant.said in
    subst (Agrees (λ read. seen bytes (expansion read.0) read.1) c.from_residual.result) (sym whole) (first_of (search rules, grind (arith, common_steps)))

pub loop-read-preserved : goal.loop-read-preserved
loop-read-preserved c =
    let bytes = c.args.bytes.now in
    let goes =
    node_goes (tail_of (drop c.loop-read.left.at bytes)) (tail_of (drop c.args.left.at bytes)) _ (expansion c.loop-read.cert) c.in_ok-node.node (c.args.count - (c.loop-read._read + 1)) (c.args.count - c.loop-read._read) c.loop-read.left.number c.in_ok-node.rest.number _ _
    c.loop-read.invariant.tail (omega arith) c.loop-read.invariant.said c.in_ok-node.ensures.said in
    record {
      inner_or_leaf = subst AreInnerOrLeaves (sym c.in_ok-append.ensures.spread) (inner_or_leaf_more (expansion c.loop-read.cert) c.in_ok-node.node c.loop-read.invariant.inner_or_leaf c.in_ok-node.ensures.inner_or_leaf);
      inside = c.in_ok-node.ensures.inside;
      tail = c.in_ok-node.ensures.tail ∙ c.loop-read.invariant.tail;
      sets = (let one = c.in_ok-append.ensures.sets in let before = c.loop-read.invariant.sets in omega (arith, one, before));
      said = goes ∙ ap (λ ns. nodes_after (tail_of (drop c.args.left.at bytes)) (c.args.count - (c.loop-read._read + 1)) ns c.in_ok-node.rest.number (lines_of (drop c.in_ok-node.rest.at bytes))) (sym c.in_ok-append.ensures.spread);
    }

pub returns-clause-said : goal.returns-clause-said
returns-clause-said c = nodes_done (tail_of (drop c.args.left.at c.args.bytes.now)) _ (expansion c.loop-read.cert) (c.args.count - c.loop-read._read) c.loop-read.left.number _ (omega arith) c.loop-read.invariant.said
