use Rattle.std.proofs.Common.{◌≡◌, ◌∙◌, ℕ, Bool, sym, ap, subst, arith, inl, inr}
use Rattle.std.proofs.lemmas.Bool.{true≢false, cases_eq}
use Rattle.cha_board.specs.Board.{man_at}
use Rattle.mob_solve.specs.Reaching.{Grew}
use Rattle.mob_solve.proofs.Reaches.{grew_yes, grew_no, grew_none}
use Rattle.mob_solve.proofs.RowRules.{man_before}
use Rattle.mob_solve.proofs.rule_passes.grow_men.Goals as goal
use Rattle.mob_solve.proofs.rule_passes.grow_men.Goals.{then-grow_on, else-grow_on}

pub loop-index-init : goal.loop-index-init
loop-index-init c = record {
  change = grew_none c.args.reach.now;
  rules = λ still o man less found. absurd (omega (arith, less));
  inside = λ r all within. within;
}

pub loop-index-preserved : goal.loop-index-preserved
loop-index-preserved c =
    let old = c.args.reach.now in
    let now = c.loop-index.reach in
    let new = c.grow_on.new.reach in
    let P : Bool → Type 0 = λ (x : Bool). Grew old new x in
    let so_far = c.loop-index.invariant in
    elim c.if-grow_on.branch [
      | then-grow_on w ↦ (record {
        change = subst P (sym w.grew-is) (grew_yes old now new c.loop-index.grew c.grow_on.result so_far.change c.grow_on.ensures.change w.if-grow_on.true);
        rules = λ still o man less found. absurd (true≢false (sym w.grew-is ∙ still));
        inside = λ r all within. c.grow_on.ensures.inside r (λ man found. all c.at.result man found) (so_far.inside r all within);
      })
      | else-grow_on w ↦ (record {
        change = subst P (sym w.grew-is) (grew_no old now new c.loop-index.grew c.grow_on.result so_far.change c.grow_on.ensures.change w.if-grow_on.false);
        rules = λ still o man less found. (
            let before = sym w.grew-is ∙ still in
            elim (cases_eq o c.loop-index.index) [
              | inl e ↦ (
                  let here : c.at.result ≡ o = c.at.ensures ∙ sym e in
                  man_before old now c.args.ground.now o c.at.result man (so_far.change.still before) here
                  (c.grow_on.ensures.rules w.if-grow_on.false man (ap (λ (x : ℕ). man_at c.args.position.now.men x) here ∙ found)))
              | inr ne ↦ so_far.rules before o man (omega (arith, less, ne)) found
            ]);
        inside = λ r all within. c.grow_on.ensures.inside r (λ man found. all c.at.result man found) (so_far.inside r all within);
      })
    ]

pub returns-clause-rules : goal.returns-clause-rules
returns-clause-rules c = λ still o man small found. c.loop-index.invariant.rules still o man (omega (arith, small)) found
