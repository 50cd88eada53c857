use Rattle.std.proofs.Common.{sym, subst}
use Rattle.cha_cert.specs.Certificates.{AllValid, NodeHolds, FirstFailing}
use Rattle.cha_cert.proofs.Bounded.{valid_is_unwinnable}
use Rattle.cha_cert.proofs.Answering.{none_fails, begins_there}
use Rattle.cha_cert.proofs.checking.check_counted.Goals as goal

pub returns-in-None-clause-law : goal.returns-in-None-clause-law
returns-in-None-clause-law g c _ =
    let p = c.args.position.now in
    let w = c.args.winner in
    let nodes = c.nodes-nodes.result.now in
    let begins = (begins_there p nodes c.in-Some.first.now (sym c.in-Some.ensures.value)).1 (c.same_position.ensures.0 c.if-not-same_position.false) in
    let none = subst (FirstFailing (NodeHolds w nodes) nodes) c.in-None.is c.in_ok-first_failing.ensures.failing in
    valid_is_unwinnable p w nodes (none_fails p w nodes begins (subst AllValid (sym c.nodes-nodes.ensures) c.in_ok-index.ensures.valid) none)
