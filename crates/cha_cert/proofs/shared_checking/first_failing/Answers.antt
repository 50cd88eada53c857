use Rattle.std.proofs.Common.{◌+◌, ◌<◌, ◌≤◌, List, length, get_or, subst, sym, ap, ◌∙◌}
use Rattle.std.proofs.lemmas.Bool.{both_ways}
use Rattle.std.proofs.lemmas.List.{get_or_read}
use Rattle.cha_cert.specs.declared.shared.SharedNode.{SharedNode}
use Rattle.cha_cert.proofs.Costing.{shared_node_cost, part_cost}
use Rattle.cha_cert.proofs.Expanded.{none_failing, some_failing, more_held}
use Rattle.cha_cert.specs.Shared.{expansion}
use Rattle.cha_cert.proofs.shared_checking.first_failing.Goals as goal

pub returns-then-not-branch-clause-failing : goal.returns-then-not-branch-clause-failing
returns-then-not-branch-clause-failing g c =
    let n = c.loop-number.number in
    let item = c.index-nodes-number.result in
    let L : List SharedNode → Type 0 = λ xs. n < length xs in
    some_failing c.args.winner c.args.shared.now n item (subst L c.nodes-nodes.ensures.value c.loop-number-test.true)
    (λ e. ap (λ (xs : List SharedNode). get_or xs n e) (sym c.nodes-nodes.ensures.value) ∙ sym (get_or_read c.nodes-nodes.result.now n item c.loop-number-test.true c.index-nodes-number.is e))
    c.loop-number.invariant.held
    (λ holds. both_ways c.in_ok-holds.field-0 c.if-not-branch.true (c.in_ok-holds.ensures.holds.1 holds))

pub returns-clause-failing : goal.returns-clause-failing
returns-clause-failing g c =
    let L : List SharedNode → Type 0 = λ xs. length xs ≤ c.loop-number.number in
    none_failing c.args.winner c.args.shared.now c.loop-number.number (subst L c.nodes-nodes.ensures.value c.loop-number-test.false) c.loop-number.invariant.held

pub loop-number-preserved : goal.loop-number-preserved
loop-number-preserved g c =
    let n = c.loop-number.number in
    let item = c.index-nodes-number.result in
    let L : List SharedNode → Type 0 = λ xs. n < length xs in
    let inside = subst L c.nodes-nodes.ensures.value c.loop-number-test.true in
    let there = λ (e : SharedNode). ap (λ (xs : List SharedNode). get_or xs n e) (sym c.nodes-nodes.ensures.value) ∙ sym (get_or_read c.nodes-nodes.result.now n item c.loop-number-test.true c.index-nodes-number.is e) in
    let cost = shared_node_cost c.args.shared.now n item c.args.steps.now c.loop-number.steps c.holds.new.steps inside there c.loop-number.invariant.cost c.holds.ensures.cost in
    record { held = more_held c.args.winner c.args.shared.now n item there c.loop-number.invariant.held (c.in_ok-holds.ensures.holds.0 c.if-not-branch.false); cost = cost }

pub returns-then-not-branch-clause-cost : goal.returns-then-not-branch-clause-cost
returns-then-not-branch-clause-cost g c =
    let n = c.loop-number.number in
    let item = c.index-nodes-number.result in
    let L : List SharedNode → Type 0 = λ xs. n < length xs in
    let inside = subst L c.nodes-nodes.ensures.value c.loop-number-test.true in
    let there = λ (e : SharedNode). ap (λ (xs : List SharedNode). get_or xs n e) (sym c.nodes-nodes.ensures.value) ∙ sym (get_or_read c.nodes-nodes.result.now n item c.loop-number-test.true c.index-nodes-number.is e) in
    let cost = shared_node_cost c.args.shared.now n item c.args.steps.now c.loop-number.steps c.holds.new.steps inside there c.loop-number.invariant.cost c.holds.ensures.cost in
    part_cost (length c.args.shared.now.nodes) (n + 1) (expansion c.args.shared.now) c.args.steps.now c.holds.new.steps cost

pub returns-in_err-holds-clause-cost : goal.returns-in_err-holds-clause-cost
returns-in_err-holds-clause-cost g c =
    let n = c.loop-number.number in
    let item = c.index-nodes-number.result in
    let L : List SharedNode → Type 0 = λ xs. n < length xs in
    let inside = subst L c.nodes-nodes.ensures.value c.loop-number-test.true in
    let there = λ (e : SharedNode). ap (λ (xs : List SharedNode). get_or xs n e) (sym c.nodes-nodes.ensures.value) ∙ sym (get_or_read c.nodes-nodes.result.now n item c.loop-number-test.true c.index-nodes-number.is e) in
    let cost = shared_node_cost c.args.shared.now n item c.args.steps.now c.loop-number.steps c.holds.new.steps inside there c.loop-number.invariant.cost c.holds.ensures.cost in
    part_cost (length c.args.shared.now.nodes) (n + 1) (expansion c.args.shared.now) c.args.steps.now c.holds.new.steps cost
