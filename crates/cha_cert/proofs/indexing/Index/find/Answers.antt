-- Each look halves the places that are left.
use Rattle.std.proofs.Common.{suc, ◌+◌, ◌-◌, ◌*◌, ◌^◌, ◌≤◌, length, refl, sym, subst, arith}
use Rattle.cha_cert.proofs.Finding.{behind, ahead, found_there, found_nowhere}
use Rattle.cha_cert.proofs.Costing.{no_look, one_look, half_left}
use Rattle.cha_cert.proofs.indexing.Index.find.Goals as goal

pub loop-low-init : goal.loop-low-init
loop-low-init g c =
    let cost = no_look c.args.steps.now (length c.args.self.now) in
    let all = c.len-high.ensures in
    record {
      ordered = omega (arith, all);
      inside = omega (arith, all);
      before = λ j d less. absurd (omega (arith, less));
      after = λ j d high less. absurd (omega (arith, all, high, less));
      rises = omega arith;
      cost = cost.0;
      left = subst (λ n. 2 ^ suc (c.args.steps.now - c.args.steps.now) * (n - 0) ≤ 2 * length c.args.self.now + 1) (sym all) cost.1;
    }

pub returns-in-Equal-clause-found : goal.returns-in-Equal-clause-found
returns-in-Equal-clause-found g c =
    let inv = c.loop-low.invariant in
    let some = c.loop-low-test.true in
    let in_list = inv.inside in
    ((λ _. found_there c.args.self.now c.args.key.now _ (omega (arith, some, in_list)) c.in-Equal.ensures.value), (λ _. refl))

pub returns-in-Equal-clause-rises : goal.returns-in-Equal-clause-rises
returns-in-Equal-clause-rises g c = (let up = c.loop-low.invariant.rises in let one = c.in-Equal.ensures.cost in omega (arith, up, one))

pub returns-in-Equal-clause-cost : goal.returns-in-Equal-clause-cost
returns-in-Equal-clause-cost g c =
    let some = c.loop-low-test.true in
    let one = c.in-Equal.ensures.cost in
    let inv = c.loop-low.invariant in
    one_look c.args.steps.now c.loop-low.steps _ (length c.args.self.now) (c.loop-low.high - c.loop-low.low) inv.rises one (omega (arith, some)) inv.left

-- The code names the place between; here it is only what lies from `low` up to `high`.
pub loop-low-preserved-in-Less : goal.loop-low-preserved-in-Less
loop-low-preserved-in-Less g c =
    let before = c.args.steps.now in
    let n = length c.args.self.now in
    let inv = c.loop-low.invariant in
    let some = c.loop-low-test.true in
    let in_list = inv.inside in
    let one = c.in-Less.ensures.cost in
    let up = inv.rises in
    let span = c.loop-low.high - c.loop-low.low in
    let left = inv.left in
    record {
      ordered = omega (arith, some);
      inside = omega (arith, some, in_list);
      before = inv.before;
      after = ahead c.args.self.now c.args.key.now c.known.ensures _ (omega (arith, some, in_list)) c.in-Less.ensures.value;
      rises = omega (arith, up, one);
      cost = one_look before c.loop-low.steps _ n span up one (omega (arith, some)) left;
      left = half_left before c.loop-low.steps _ n span _ up one (omega (arith, some)) (omega (arith, some)) left;
    }

pub loop-low-preserved : goal.loop-low-preserved
loop-low-preserved g c =
    let before = c.args.steps.now in
    let n = length c.args.self.now in
    let inv = c.loop-low.invariant in
    let some = c.loop-low-test.true in
    let in_list = inv.inside in
    let one = c.in-Greater.ensures.cost in
    let up = inv.rises in
    let span = c.loop-low.high - c.loop-low.low in
    let left = inv.left in
    record {
      ordered = omega (arith, some);
      inside = in_list;
      before = behind c.args.self.now c.args.key.now c.known.ensures _ (omega (arith, some, in_list)) c.in-Greater.ensures.value;
      after = inv.after;
      rises = omega (arith, up, one);
      cost = one_look before c.loop-low.steps _ n span up one (omega (arith, some)) left;
      left = half_left before c.loop-low.steps _ n span _ up one (omega (arith, some)) (omega (arith, some)) left;
    }

pub returns-clause-found : goal.returns-clause-found
returns-clause-found g c =
    let inv = c.loop-low.invariant in (
      (λ e. cc),
      (λ there. absurd (found_nowhere c.args.self.now c.args.key.now c.loop-low.low c.loop-low.high c.loop-low-test.false inv.before inv.after there)),
    )
