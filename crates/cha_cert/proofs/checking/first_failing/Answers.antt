use Rattle.std.proofs.Common.{length, ap, subst, sym}
use Rattle.std.proofs.lemmas.Bool.{both_ways}
use Rattle.std.proofs.lemmas.List.{get_or_read}
use Rattle.cha_cert.specs.Certificates.{NodeHolds}
use Rattle.cha_cert.specs.Costs.{moves_at}
use Rattle.cha_cert.specs.declared.nodes.Node.{Node}
use Rattle.cha_cert.proofs.Costing.{one_node_cost}
use Rattle.cha_cert.proofs.checking.first_failing.Goals as goal

pub returns-then-not-branch-clause-failing : goal.returns-then-not-branch-clause-failing
returns-then-not-branch-clause-failing g c = (
  c.loop-number-test.true,
  c.loop-number.invariant.held,
  λ d holds.
      let same = get_or_read c.args.nodes.now c.loop-number.number c.index-nodes-number.result c.loop-number-test.true c.index-nodes-number.is d in
      both_ways c.in_ok-node_holds.field-0 c.if-not-branch.true (c.in_ok-node_holds.ensures.holds.1 (subst (NodeHolds c.args.winner c.args.nodes.now) (sym same) holds)),
)

pub returns-then-not-branch-clause-cost : goal.returns-then-not-branch-clause-cost
returns-then-not-branch-clause-cost g c =
    one_node_cost (length c.args.nodes.now) c.loop-number.number c.args.nodes.now c.index-nodes-number.result _ c.args.steps.now c.loop-number.steps c.node_holds.new.steps c.loop-number-test.true
    (ap (λ (n : Node). moves_at n.position n.part) c.index-nodes-number.is) c.loop-number.invariant.cost c.node_holds.ensures.cost

pub returns-in_err-node_holds-clause-cost : goal.returns-in_err-node_holds-clause-cost
returns-in_err-node_holds-clause-cost g c =
    one_node_cost (length c.args.nodes.now) c.loop-number.number c.args.nodes.now c.index-nodes-number.result _ c.args.steps.now c.loop-number.steps c.node_holds.new.steps c.loop-number-test.true
    (ap (λ (n : Node). moves_at n.position n.part) c.index-nodes-number.is) c.loop-number.invariant.cost c.node_holds.ensures.cost
