use Rattle.std.proofs.Common.{IfOk, IsTrue, ◌↔◌, sym, subst}
use Rattle.cha_cert.specs.Certificates.{PartHolds}
use Rattle.cha_cert.proofs.Costing.{inner_cost}
use Rattle.cha_cert.proofs.Finding.{index_shows}
use Rattle.cha_cert.proofs.Leading.{leads_shown, told_alike}
use Rattle.cha_cert.proofs.checking.node_holds.Goals as goal

pub returns-in-Inner-clause-holds : goal.returns-in-Inner-clause-holds
returns-in-Inner-clause-holds g c =
    let w = c.args.winner in
    let nodes = c.args.nodes.now in
    let q = c.args.node.now.position in
    subst (λ part. IfOk c.inner_holds.result (λ holds. IsTrue holds ↔ PartHolds w nodes q part)) (sym c.in-Inner.is)
    (told_alike (leads_shown w nodes c.args.index.now q c.known.ensures (index_shows nodes c.args.index.now c.requires)) c.inner_holds.result c.inner_holds.ensures.holds)

pub returns-in-Inner-clause-cost : goal.returns-in-Inner-clause-cost
returns-in-Inner-clause-cost g c =
    inner_cost c.args.nodes.now c.args.index.now c.args.node.now.position c.args.node.now.part c.args.steps.now c.inner_holds.new.steps c.requires c.in-Inner.is c.inner_holds.ensures.cost
