use Rattle.std.proofs.lemmas.Bool.{OnTrue_at}
use Rattle.mob_check.specs.Rules.{is_freed}
use Rattle.mob_check.proofs.RowRules.{shown, shows}
use Rattle.mob_solve.proofs.man_rules.free.Goals as goal

pub returns-then-frees_none-clause-rules : goal.returns-then-frees_none-clause-rules
returns-then-frees_none-clause-rules c = λ still. OnTrue_at c.if-frees_none.true c.frees_none.ensures c.args.row

pub returns-clause-rules : goal.returns-clause-rules
returns-clause-rules c = λ still x small h.
    c.loosen.ensures.there still x small (shows c.freed.result (is_freed c.args.ground.now c.args.origin c.args.side c.args.kind c.args.row) c.freed.ensures x small h)

pub returns-clause-inside : goal.returns-clause-inside
returns-clause-inside c = λ r given within.
    c.loosen.ensures.inside r (λ x h. let at = shown c.freed.result (is_freed c.args.ground.now c.args.origin c.args.side c.args.kind c.args.row) c.freed.ensures x h in given x at.0 at.1) within
