use Rattle.std.proofs.Common.{◌≡◌, ℕ, Bool, ap, sym, cond, subst, arith, inl, inr}
use Rattle.std.proofs.lemmas.Bool.{true≢false, both_ways, cases_Bool}
use Rattle.mob_law.specs.Closed.{IsClosed}
use Rattle.mob_solve.specs.declared.reach.Reach.{Reach}
use Rattle.mob_solve.specs.Reaching.{sets_in, total_of}
use Rattle.mob_solve.proofs.Reaches.{total_small}
use Rattle.mob_solve.proofs.closure.grown.Goals as goal

pub loop-grew-init : goal.loop-grew-init
loop-grew-init c = record {
  closed = λ e. absurd (true≢false e);
  inside = λ r closed. record {
    has = λ o k u h. absurd (both_ways _ (c.empty-reach.ensures.rows o k u) h);
    loose = λ o h. absurd (both_ways _ (c.empty-reach.ensures.loose o) h);
  };
}

pub loop-grew-preserved : goal.loop-grew-preserved
loop-grew-preserved c = record {
  closed = λ e. (
      let P : Reach → Type 0 = λ (x : Reach). IsClosed c.args.position.now (sets_in x) in
      subst P (sym (c.pass-grew.ensures.change.still e)) (c.pass-grew.ensures.closed e));
  inside = λ r closed. c.pass-grew.ensures.inside r closed (c.loop-grew.invariant.inside r closed);
}

pub loop-grew-smaller : goal.loop-grew-smaller
loop-grew-smaller c =
    let few = total_small c.pass-grew.new.reach in
    let now : cond {A = ℕ} c.loop-grew.grew 1 0 ≡ 1 = ap (λ (b : Bool). cond {A = ℕ} b 1 0) c.loop-grew-test.true in
    elim (cases_Bool c.pass-grew.result) [
      | inl e ↦ (
          let more = c.pass-grew.ensures.change.more e in
          let next : cond {A = ℕ} c.pass-grew.result 1 0 ≡ 1 = ap (λ (b : Bool). cond {A = ℕ} b 1 0) e in
          omega (arith, few, now, more, next))
      | inr e ↦ (
          let same = ap total_of (c.pass-grew.ensures.change.still e) in
          let next : cond {A = ℕ} c.pass-grew.result 1 0 ≡ 0 = ap (λ (b : Bool). cond {A = ℕ} b 1 0) e in
          omega (arith, few, now, same, next))
    ]

pub returns : goal.returns
returns c = record { closed = c.loop-grew.invariant.closed c.loop-grew-test.false; inside = c.loop-grew.invariant.inside }
