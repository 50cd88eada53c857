use Rattle.std.proofs.Common.{inl, inr, refl, arith, ◌<◌, length}
use Rattle.node_store.specs.Nodes.{positions}
use Rattle.forced_graph.specs.Regions.{IsMet}
use Rattle.forced_graph.proofs.ByName.{get_contained}
use Rattle.forced_graph.proofs.region.Region.meet.Goals as goal

pub returns-in-Some-clause-met : goal.returns-in-Some-clause-met
unfolding IsMet
returns-in-Some-clause-met c =
    inl (get_contained (positions c.args.self.now.store.nodes) c.in-Some.field-0 c.args.position.now c.in-Some.ensures.found, refl, refl, refl)

pub returns-in_ok-push-in-None-clause-met : goal.returns-in_ok-push-in-None-clause-met
unfolding IsMet
returns-in_ok-push-in-None-clause-met c =
    let lists = c.known.ensures.size in
    let low = c.guide-bucket.ensures in
    let within : c.guide-bucket.result < length c.args.self.now.store.waiting = omega arith in
    inr (c.in-None.ensures.none, c.guide-bucket.result, within, c.in_ok-add-in-None.ensures.waiting, c.in_ok-add-in-None.ensures.nodes, c.in_ok-push-in-None.ensures.items)
