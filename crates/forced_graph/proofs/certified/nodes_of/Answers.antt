use Rattle.std.proofs.Common.{◌++◌, List, length, ap, ◌∙◌, arith}
use Rattle.cha_cert.specs.declared.nodes.Node.{Node as CertNode}
use Rattle.cha_cert.specs.declared.nodes.Part.{Part}
use Rattle.node_store.specs.Nodes.{positions}
use Rattle.forced_graph.specs.Regions.{certified}
use Rattle.forced_graph.proofs.Certifying.{next_node, all_nodes}
use Rattle.forced_graph.proofs.certified.nodes_of.Goals as goal

pub loop-part-init : goal.loop-part-init
loop-part-init c =
    let same = c.into_iter-part-iterator.ensures.into_iter_gives.0 in
    let qs = positions c.args.store.now.nodes in
    let size = c.requires in
    let len = ap length same in
    record {
      whole = ap (λ (l : List CertNode). l ++ certified qs c.into_iter-part-iterator.result.rest.items) c.new-cert.ensures ∙ ap (λ (l : List Part). certified qs l) same;
      left = omega arith;
    }

pub position-requires : goal.position-requires
position-requires c =
    let left = c.loop-part.invariant.left in
    let one = ap length c.in-Some.ensures.steps.0 in
    omega arith

pub overflow_add-name : goal.overflow_add-name
overflow_add-name c =
    let left = c.loop-part.invariant.left in
    let one = ap length c.in-Some.ensures.steps.0 in
    let few = c.known.ensures.few in
    omega arith

pub loop-part-preserved : goal.loop-part-preserved
loop-part-preserved c =
    let before = c.loop-part.invariant in
    let left = c.loop-part.invariant.left in
    let one = ap length c.in-Some.ensures.steps.0 in
    record {
      whole = next_node (positions c.args.store.now.nodes) c.loop-part.cert c.push.new.self (certified (positions c.args.store.now.nodes) c.args.parts.items) c.loop-part.name c.position.result c.in-Some.part c.loop-part.part-iterator.rest.items c.next.new.self.rest.items c.position.ensures before.whole c.in-Some.ensures.steps.0 c.in_ok-push.ensures.ok;
      left = omega arith;
    }

pub returns : goal.returns
returns c =
    let none = c.in-None.ensures.steps.0 in
    let len = c.loop-part.part-iterator.rest.ok.0 in
    all_nodes (positions c.args.store.now.nodes) c.loop-part.cert (certified (positions c.args.store.now.nodes) c.args.parts.items) c.loop-part.name c.loop-part.part-iterator.rest.items c.loop-part.invariant.whole (omega arith)
