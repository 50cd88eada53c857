use Rattle.std.proofs.Common.{◌<◌, inl, arith}
use Rattle.node_store.proofs.Paths.{earlier}
use Rattle.forced_graph.specs.Lasting.{IsLasting}
use Rattle.forced_graph.proofs.Opening.{open_root, open_quiet, open_unshown, leaf_shown, leaf_men}
use Rattle.forced_graph.proofs.taking.leaf_part.Goals as goal

pub returns-in_default-clause-open : goal.returns-in_default-clause-open
returns-in_default-clause-open c = open_root c.args.store.now.nodes c.args.name c.args.winner c.in_default.ensures.value

pub position-requires : goal.position-requires
position-requires c =
    let before : c.in-Some.origin.parent < c.args.name = earlier c.args.store.now.nodes c.args.name c.in-Some.ensures.comes.0 c.in-Some.origin c.in-Some.ensures.comes.2 in
    let within = c.requires in
    omega arith

pub returns-then-not-is_lasting-clause-open : goal.returns-then-not-is_lasting-clause-open
unfolding IsLasting
returns-then-not-is_lasting-clause-open c =
    open_quiet c.args.store.now.nodes c.args.name c.args.winner c.in-Some.origin c.position.result c.in-Some.ensures.value c.position.ensures (λ zeroing. let is = c.is_lasting.ensures.1 (inl zeroing) in let not = c.if-not-is_lasting.true in cc)

pub returns-in-None-clause-open : goal.returns-in-None-clause-open
returns-in-None-clause-open c =
    open_unshown c.args.store.now.nodes c.args.name c.args.winner c.position-next.result c.in_ok-static_verdict.field-0 c.position-next.ensures c.in-None.is c.in_ok-static_verdict.ensures.none c.in_default-find.ensures

pub returns-in-Some-2-clause-leaf : goal.returns-in-Some-2-clause-leaf
returns-in-Some-2-clause-leaf c =
    leaf_shown c.args.store.now.nodes c.args.name c.args.winner c.position-next.result c.in_ok-static_verdict.field-0 c.in-Some-2.sets c.position-next.ensures c.in-Some-2.is c.in_ok-static_verdict.ensures.closed c.in_ok-static_verdict.ensures.no_mate

pub returns-in-Some-find-clause-leaf : goal.returns-in-Some-find-clause-leaf
returns-in-Some-find-clause-leaf c = leaf_men c.args.store.now.nodes c.args.name c.args.winner c.position-next.result c.find.result c.in-Some-find.reason c.position-next.ensures c.in-Some-find.is c.find.ensures
