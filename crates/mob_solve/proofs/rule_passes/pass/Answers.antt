use Rattle.cha_board.proofs.Identity.{on_board}
use Rattle.mob_solve.specs.Reaching.{sets_in}
use Rattle.mob_check.proofs.Grounded.{all_forced}
use Rattle.mob_check.proofs.RulesClose.{rules_close}
use Rattle.mob_solve.proofs.rule_passes.pass.Goals as goal

pub returns-clause-closed : goal.returns-clause-closed
returns-clause-closed c = λ last.
    let p = c.args.position.now in
    let valid = c.known.ensures in
    let rules = rw c.ground_of-ground.ensures at c.grow_men.ensures.rules last in
    rules_close p (sets_in c.args.reach.now) valid (λ o man stood. rules o man (rw valid.size at (on_board p.men o man stood)) stood)

pub returns-clause-inside : goal.returns-clause-inside
returns-clause-inside c = λ r closed within.
    c.grow_men.ensures.inside r (rw c.ground_of-ground.ensures (all_forced c.args.position.now (sets_in c.args.reach.now) r within closed)) within
