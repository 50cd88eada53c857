use Rattle.std.proofs.lemmas.Grind.{common_steps}
use Rattle.std.proofs.Common.{rules, ◌-◌, ◌+◌, drop, ◌∙◌, sym, ap, subst, arith}
use Rattle.cert_text.specs.declared.faults.CertKind.TheVariants.{Node}
use Rattle.cert_text.specs.TextLines.{lines_of}
use Rattle.cert_text.specs.Texts.{wanted}
use Rattle.cert_text.specs.SharedTexts.{shared_node_of, many_after}
use Rattle.cert_text.specs.Agreeing.{Agrees, seen}
use Rattle.cert_text.proofs.Many.{many_first, many_goes, many_done}
use Rattle.cert_text.proofs.shared_bodies.all_nodes.Goals as goal

pub returns-in_err-node-clause-said : goal.returns-in_err-node-clause-said
returns-in_err-node-clause-said c =
    let bytes = c.args.bytes.now in
    let whole =
    many_first (wanted (shared_node_of c.args.sets) Node) _ c.loop-read.shared.nodes (c.args.count - (c.loop-read._read + 1)) (c.args.count - c.loop-read._read) c.loop-read.left.number (lines_of (drop c.loop-read.left.at bytes)) (omega arith) c.loop-read.invariant.said in
    subst (Agrees (λ read. seen bytes read.0.nodes read.1) c.from_residual.result) (sym whole) (first_of (search rules, grind (arith, common_steps)))

pub loop-read-preserved : goal.loop-read-preserved
loop-read-preserved c =
    let bytes = c.args.bytes.now in
    let one = wanted (shared_node_of c.args.sets) Node in
    let rest = lines_of (drop c.in_ok-node.rest.at bytes) in
    let k = c.args.count - (c.loop-read._read + 1) in
    let goes =
    many_goes one _ c.loop-read.shared.nodes k (c.args.count - c.loop-read._read) c.loop-read.left.number (lines_of (drop c.loop-read.left.at bytes)) c.in_ok-node.node c.in_ok-node.rest.number rest (omega arith) c.loop-read.invariant.said c.in_ok-node.ensures.said in
    let grown = c.in_ok-push.ensures.ok in
    record {
      sets = ap (λ x. x.sets) grown ∙ c.loop-read.invariant.sets;
      inside = c.in_ok-node.ensures.inside;
      tail = c.in_ok-node.ensures.tail ∙ c.loop-read.invariant.tail;
      said = goes ∙ ap (λ xs. many_after one k xs c.in_ok-node.rest.number rest) (sym (ap (λ x. x.nodes) grown));
    }

pub returns-clause-said : goal.returns-clause-said
returns-clause-said c =
    many_done (wanted (shared_node_of c.args.sets) Node) _ c.loop-read.shared.nodes 0 (c.args.count - c.loop-read._read) c.loop-read.left.number _ (omega arith) c.loop-read.invariant.said
