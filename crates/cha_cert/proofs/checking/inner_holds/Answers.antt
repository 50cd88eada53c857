use Rattle.std.proofs.Common.{rules, ◌+◌, get_or, length, refl, sym, ap, subst, ◌∙◌, arith}
use Rattle.std.specs.List.{Contains}
use Rattle.std.proofs.lemmas.Bool.{both_ways}
use Rattle.std.proofs.lemmas.List.{get_or_read}
use Rattle.cha_moves.specs.Moves.{after, legal}
use Rattle.cha_cert.specs.Indexed.{packed_of, words_in}
use Rattle.cha_cert.proofs.Costing.{cost_none, cost_search, cost_sum, cost_within}
use Rattle.cha_cert.proofs.Leading.{leads_more, leads_all}
use Rattle.cha_cert.proofs.checking.inner_holds.Goals as goal

pub loop-m-init : goal.loop-m-init
loop-m-init g c = record { same = search rules; leads = λ k d less. absurd (omega (arith, less)); cost = cost_none (length c.args.index.now) 0 c.args.steps.now }

pub loop-m-preserved : goal.loop-m-preserved
loop-m-preserved g c =
    let q = c.args.position.now in
    let m = c.m-item.result in
    let n = length c.args.index.now in
    let here : Contains (words_in c.args.index.now) (packed_of (after q m)) = subst (λ x. Contains (words_in c.args.index.now) (packed_of x)) c.after.ensures (c.has.ensures.found.0 c.if-not-has.false) in
    record {
      same = c.loop-m.invariant.same;
      leads =
          leads_more c.args.index.now q (legal q) c.loop-m.m-index c.loop-m.invariant.leads
          (λ d. subst (λ step. Contains (words_in c.args.index.now) (packed_of (after q step)))
          (get_or_read c.deref-m-items.result.now c.loop-m.m-index m c.loop-m-test.true c.m-item.is d ∙ ap (λ moves. get_or moves c.loop-m.m-index d) c.loop-m.invariant.same) here);
      cost = cost_sum n c.loop-m.m-index 1 c.args.steps.now c.loop-m.steps c.has.new.steps c.loop-m.invariant.cost (cost_search n c.loop-m.steps c.has.new.steps c.has.ensures.rises c.has.ensures.cost);
    }

pub returns-then-not-has-clause-holds : goal.returns-then-not-has-clause-holds
returns-then-not-has-clause-holds g c =
    let q = c.args.position.now in
    let m = c.m-item.result in
    let there : Contains (legal q) m = subst (λ moves. Contains moves m) c.loop-m.invariant.same (c.loop-m.m-index, c.loop-m-test.true, sym c.m-item.is) in (
      λ e. cc,
      λ holds. absurd (both_ways c.has.result c.if-not-has.true (c.has.ensures.found.1 (subst (λ x. Contains (words_in c.args.index.now) (packed_of x)) (sym c.after.ensures) (holds.leads m there)))),
    )

pub returns-then-not-has-clause-cost : goal.returns-then-not-has-clause-cost
returns-then-not-has-clause-cost g c =
    let n = length c.args.index.now in
    let k = c.loop-m.m-index in
    let inside = c.loop-m-test.true in
    let same = ap length c.loop-m.invariant.same in
    cost_within n (k + 1) (length (legal c.args.position.now)) c.args.steps.now c.has.new.steps (omega (arith, inside, same))
    (cost_sum n k 1 c.args.steps.now c.loop-m.steps c.has.new.steps c.loop-m.invariant.cost (cost_search n c.loop-m.steps c.has.new.steps c.has.ensures.rises c.has.ensures.cost))

pub returns-clause-holds : goal.returns-clause-holds
returns-clause-holds g c =
    let q = c.args.position.now in
    ((λ _. leads_all c.args.winner c.args.index.now q c.loop-m.m-index (λ mated. both_ways c.is_mate.result c.if-is_mate.false (c.is_mate.ensures.mated.1 mated)) (let few = c.loop-m-test.false in omega (arith, few, ap length c.loop-m.invariant.same)) c.loop-m.invariant.leads), (λ _. refl))
