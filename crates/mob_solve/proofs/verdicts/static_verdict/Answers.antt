use Rattle.mob_solve.proofs.verdicts.static_verdict.Goals as goal

pub returns-then-least_show-clause-least : goal.returns-then-least_show-clause-least
returns-then-least_show-clause-least c = c.in_ok-sets.ensures

pub returns-then-least_show-clause-closed : goal.returns-then-least_show-clause-closed
returns-then-least_show-clause-closed c = c.in_ok-sets.ensures.closed
