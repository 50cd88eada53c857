use Rattle.std.proofs.Common.{◌≡◌, ◌<◌, ◌==◌, ◌+◌, ◌∙◌, ℕ, true, length, sym, ap, subst, arith, inl, inr}
use Rattle.std.specs.Int.{bit_at}
use Rattle.std.proofs.lemmas.Bool.{both_ways, cases_eq}
use Rattle.cha_board.specs.declared.men.Kind.{Kind}
use Rattle.cha_board.specs.SquareSets.{has_square}
use Rattle.mob_sets.specs.Rows.{SetRows, sets_of}
use Rattle.mob_sets.specs.Mobility.{IsWithin}
use Rattle.mob_solve.specs.Reaching.{sets_in}
use Rattle.mob_solve.proofs.Entered.{nothing_within, loosened_grows, loosened_has, loosened_inside, origin_small}
use Rattle.mob_check.proofs.RowRules.{shown}
use Rattle.mob_solve.proofs.entering.entered_sets.Goals as goal
use Rattle.mob_solve.proofs.entering.entered_sets.Goals.{then-has, else-has}

pub loop-index-init : goal.loop-index-init
loop-index-init c = record {
  has = λ o less k u h. absurd (omega (arith, less));
  loose = λ o less h. absurd (omega (arith, less));
  inside = (let P : SetRows → Type 0 = λ (x : SetRows). IsWithin (sets_of x) (sets_in c.args.reach.now) in subst P (sym c.new-sets.ensures) (nothing_within (sets_in c.args.reach.now)));
}

pub loop-index-preserved : goal.loop-index-preserved
loop-index-preserved c =
    let all = sets_in c.args.reach.now in
    let now = sets_of c.loop-index.sets in
    let mid = sets_of c.enter_origin.new.sets in
    let so_far = c.loop-index.invariant in
    let entered = c.in_ok-enter_origin.ensures in
    let at : c.at-origin.result ≡ c.loop-index.index = c.at-origin.ensures in
    let has = λ (o : ℕ) (less : o < c.loop-index.index + 1) (k : Kind) (u : ℕ) (h : all.has o k u ≡ true).
    (let answer : mid.has o k u ≡ true = elim (cases_eq o c.loop-index.index) [
      | inl e ↦ (
          let A : ℕ → Type 0 = λ (x : ℕ). mid.has x k u ≡ true in
          let B : ℕ → Type 0 = λ (x : ℕ). all.has x k u ≡ true in
          subst A (at ∙ sym e) (entered.all k u (subst B (e ∙ sym at) h)))
      | inr ne ↦ entered.grows.has o k u (so_far.has o (omega (arith, less, ne)) k u h)
    ] in answer) in
    let here : has_square c.args.reach.now.loose c.loop-index.index ≡ c.has.result = ap (λ (x : ℕ). has_square c.args.reach.now.loose x) (sym at) ∙ sym c.has.ensures in
    elim c.if-has.branch [
      | then-has w ↦ (
          let next = sets_of w.loosen.new.self in
          let ok = w.loosen.ensures.sets in
          let grows = loosened_grows mid next c.at-origin.result ok in
          record {
            has = λ o less k u h. (
                let A : SetRows → Type 0 = λ (x : SetRows). (sets_of x).has o k u ≡ true in
                subst A (sym w.sets-is) (grows.has o k u (has o less k u h)));
            loose = λ o less h. (
                let A : SetRows → Type 0 = λ (x : SetRows). (sets_of x).loose o ≡ true in
                subst A (sym w.sets-is) (
                elim (cases_eq o c.loop-index.index) [
                  | inl e ↦ (let B : ℕ → Type 0 = λ (x : ℕ). next.loose x ≡ true in subst B (at ∙ sym e) (loosened_has mid next c.at-origin.result ok))
                  | inr ne ↦ grows.loose o (entered.grows.loose o (so_far.loose o (omega (arith, less, ne)) h))
                ]));
            inside = (
                let A : SetRows → Type 0 = λ (x : SetRows). IsWithin (sets_of x) all in
                let there : all.loose c.at-origin.result ≡ true = sym c.has.ensures ∙ w.if-has.true in
                subst A (sym w.sets-is) (loosened_inside mid next all c.at-origin.result ok there (entered.inside so_far.inside)));
          })
      | else-has w ↦ record {
        has = λ o less k u h. (
            let A : SetRows → Type 0 = λ (x : SetRows). (sets_of x).has o k u ≡ true in
            subst A (sym w.sets-is) (has o less k u h));
        loose = λ o less h. (
            let A : SetRows → Type 0 = λ (x : SetRows). (sets_of x).loose o ≡ true in
            subst A (sym w.sets-is) (
            elim (cases_eq o c.loop-index.index) [
              | inl e ↦ absurd (both_ways (all.loose o) (ap (λ (x : ℕ). has_square c.args.reach.now.loose x) e ∙ here ∙ w.if-has.false) h)
              | inr ne ↦ entered.grows.loose o (so_far.loose o (omega (arith, less, ne)) h)
            ]));
        inside = (
            let A : SetRows → Type 0 = λ (x : SetRows). IsWithin (sets_of x) all in
            subst A (sym w.sets-is) (entered.inside so_far.inside));
      }
    ]

pub returns-clause-all : goal.returns-clause-all
returns-clause-all c =
    let long : length c.args.reach.now.rows ≡ 384 = omega arith in
    record {
      has = λ o k u h. (let small = origin_small c.args.reach.now o k u long h in c.loop-index.invariant.has o (omega (arith, small)) k u h);
      loose = λ o h. (
          let small = (shown c.args.reach.now.loose (λ (s : ℕ). bit_at c.bits-number.result s == 1) c.bits-number.ensures.shown o h).0 in
          c.loop-index.invariant.loose o (omega (arith, small)) h);
    }

pub returns-clause-inside : goal.returns-clause-inside
returns-clause-inside c = c.loop-index.invariant.inside
