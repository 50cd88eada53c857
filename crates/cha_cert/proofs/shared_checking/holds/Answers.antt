use Rattle.std.proofs.Common.{IfOk, IsTrue, ◌↔◌, length, sym, subst}
use Rattle.cha_cert.specs.Certificates.{PartHolds}
use Rattle.cha_cert.specs.Costs.{CostsAtMost, shared_moves_at}
use Rattle.cha_cert.specs.Shared.{expansion, part_of}
use Rattle.cha_cert.proofs.Costing.{shared_inner_cost}
use Rattle.cha_cert.proofs.Finding.{index_shows}
use Rattle.cha_cert.proofs.Leading.{leads_shown, told_alike}
use Rattle.cha_cert.proofs.shared_checking.holds.Goals as goal

pub returns-in-Inner-clause-holds : goal.returns-in-Inner-clause-holds
returns-in-Inner-clause-holds g c =
    let w = c.args.winner in
    let nodes = expansion c.args.shared.now in
    let q = c.position-position.result in
    let held =
    subst (λ part. IfOk c.inner_holds.result (λ holds. IsTrue holds ↔ PartHolds w nodes q (part_of c.args.shared.now.sets part))) (sym c.in-Inner.is)
    (told_alike (leads_shown w nodes c.args.index.now q c.known.ensures (index_shows nodes c.args.index.now c.requires.index)) c.inner_holds.result c.inner_holds.ensures.holds) in
    subst (λ x. IfOk c.inner_holds.result (λ holds. IsTrue holds ↔ PartHolds w nodes x (part_of c.args.shared.now.sets c.args.node.now.part))) c.position-position.ensures held

pub returns-in-Inner-clause-cost : goal.returns-in-Inner-clause-cost
returns-in-Inner-clause-cost g c =
    subst (λ x. CostsAtMost (length c.args.shared.now.nodes) (shared_moves_at x c.args.node.now.part) c.args.steps.now c.inner_holds.new.steps) c.position-position.ensures
    (shared_inner_cost c.args.shared.now c.args.index.now c.position-position.result c.args.node.now.part c.args.steps.now c.inner_holds.new.steps c.requires.index c.in-Inner.is c.inner_holds.ensures.cost)
