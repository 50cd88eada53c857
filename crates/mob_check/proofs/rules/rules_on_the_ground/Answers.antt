-- The rules on a ground are those of closed sets.
use Rattle.mob_check.proofs.Grounded.{all_forced}
use Rattle.mob_check.proofs.RulesClose.{rules_close}
use Rattle.mob_check.proofs.rules.rules_on_the_ground.Goals as goal

pub returns-clause-closed : goal.returns-clause-closed
returns-clause-closed c = λ p s valid. (rules_close p s valid, λ closed. all_forced p s s (record { has = λ o k u h. h; loose = λ o h. h }) closed)

pub returns-clause-within : goal.returns-clause-within
returns-clause-within c = λ p s r within closed. all_forced p s r within closed
