use Rattle.std.proofs.lemmas.Bool.{both_ways, OnTrue_from, OnFalse_from}
use Rattle.mob_law.specs.Threats.{HasNoMate}
use Rattle.mob_law.proofs.Law.{bounded}
use Rattle.mob_law.proofs.Growing.{no_mate_shrinks}
use Rattle.mob_sets.specs.Rows.{sets_of}
use Rattle.mob_solve.proofs.verdicts.least_show.Goals as goal

pub returns-clause-no_mate : goal.returns-clause-no_mate
returns-clause-no_mate c = OnTrue_from c.no_mate.result _ c.no_mate.ensures.0

pub returns-clause-law : goal.returns-clause-law
returns-clause-law c =
    OnTrue_from c.no_mate.result _ (λ is. bounded c.args.position.now (sets_of c.args.sets.now) c.args.winner c.known.ensures c.requires.closed (c.no_mate.ensures.0 is))

pub returns-clause-open : goal.returns-clause-open
returns-clause-open c =
    OnFalse_from c.no_mate.result _ (λ isnt static.
    let p = c.args.position.now in
    let s = sets_of c.args.sets.now in
    let within = c.requires.inside static.0 static.1 in
    let none : HasNoMate p s c.args.winner = no_mate_shrinks p s static.0 within c.args.winner static.2 in
    both_ways c.no_mate.result isnt (c.no_mate.ensures.1 none))
