use Rattle.std.proofs.Common.{List, slice_get, sym, ap, subst, ◌∙◌}
use Rattle.cha_cert.specs.declared.shared.SharedNode.{SharedNode}
use Rattle.cha_cert.specs.Certificates.{NodeHolds, FirstFailing}
use Rattle.cha_cert.specs.Shared.{expansion}
use Rattle.cha_cert.proofs.Bounded.{valid_is_unwinnable}
use Rattle.cha_cert.proofs.Answering.{none_fails, one_fails}
use Rattle.cha_cert.proofs.Expanded.{expansion_begins}
use Rattle.cha_cert.proofs.shared_checking.check_shared_counted.Goals as goal

pub returns-in-None-clause-law : goal.returns-in-None-clause-law
returns-in-None-clause-law g c _ =
    let p = c.args.position.now in
    let w = c.args.winner in
    let shared = c.args.shared.now in
    let nodes = expansion shared in
    let at = ap (λ (xs : List SharedNode). slice_get xs 0) (sym c.nodes-nodes.ensures.value) ∙ sym c.in-Some.ensures.value in
    let begins = (expansion_begins p shared c.in-Some.first.now at).1 (sym c.position.ensures ∙ c.same_position.ensures.0 c.if-not-same_position.false) in
    let none = subst (FirstFailing (NodeHolds w nodes) nodes) c.in-None.is c.in_ok-first_failing.ensures.failing in
    valid_is_unwinnable p w nodes (none_fails p w nodes begins c.in_ok-index.ensures.valid none)

pub returns-clause-answer : goal.returns-clause-answer
returns-clause-answer g c =
    let p = c.args.position.now in
    let w = c.args.winner in
    let shared = c.args.shared.now in
    let nodes = expansion shared in
    let at = ap (λ (xs : List SharedNode). slice_get xs 0) (sym c.nodes-nodes.ensures.value) ∙ sym c.in-Some.ensures.value in
    let begins = (expansion_begins p shared c.in-Some.first.now at).1 (sym c.position.ensures ∙ c.same_position.ensures.0 c.if-not-same_position.false) in
    let some = subst (FirstFailing (NodeHolds w nodes) nodes) c.in-Some-2.is c.in_ok-first_failing.ensures.failing in
    (one_fails p w nodes c.in-Some-2.number begins some).0

pub returns-clause-accepted : goal.returns-clause-accepted
returns-clause-accepted g c =
    let p = c.args.position.now in
    let w = c.args.winner in
    let shared = c.args.shared.now in
    let nodes = expansion shared in
    let at = ap (λ (xs : List SharedNode). slice_get xs 0) (sym c.nodes-nodes.ensures.value) ∙ sym c.in-Some.ensures.value in
    let begins = (expansion_begins p shared c.in-Some.first.now at).1 (sym c.position.ensures ∙ c.same_position.ensures.0 c.if-not-same_position.false) in
    let some = subst (FirstFailing (NodeHolds w nodes) nodes) c.in-Some-2.is c.in_ok-first_failing.ensures.failing in
    ((λ e. cc), (λ cert. absurd ((one_fails p w nodes c.in-Some-2.number begins some).1 cert)))
