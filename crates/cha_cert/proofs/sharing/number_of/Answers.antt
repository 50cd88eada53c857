-- The first sets that equal the wanted ones.
use Rattle.std.proofs.Common.{sym, ◌∙◌}
use Rattle.std.proofs.lemmas.List.{get_or_read}
use Rattle.cha_cert.proofs.Telling.{number_there, number_nowhere}
use Rattle.cha_cert.proofs.sharing.number_of.Goals as goal

pub returns-then-same_sets-clause-exact : goal.returns-then-same_sets-clause-exact
returns-then-same_sets-clause-exact c =
    let all = c.args.all.now in
    let k = c.loop-number.number in
    number_there all c.args.wanted.now k c.loop-number-test.true (λ d. sym (get_or_read all k c.index-all-number.result c.loop-number-test.true c.index-all-number.is d) ∙ c.same_sets.ensures.0 c.if-same_sets.true) c.loop-number.invariant

pub returns-clause-exact : goal.returns-clause-exact
returns-clause-exact c = number_nowhere c.args.all.now c.args.wanted.now c.loop-number.number c.loop-number-test.false c.loop-number.invariant
