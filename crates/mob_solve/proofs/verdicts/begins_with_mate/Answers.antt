use Rattle.std.proofs.Common.{not}
use Rattle.std.proofs.lemmas.Bool.{both_ways, not-true, OnTrue_from}
use Rattle.mob_law.specs.Threats.{HasNoMate}
use Rattle.mob_law.proofs.Growing.{no_mate_shrinks}
use Rattle.mob_sets.specs.Rows.{sets_of}
use Rattle.mob_solve.proofs.verdicts.begins_with_mate.Goals as goal

pub returns : goal.returns
returns c =
    OnTrue_from (not c.no_mate.result) _ (λ is static.
    let p = c.args.position.now in
    let s = sets_of c.in_ok-sets.sets in
    let within = c.in_ok-sets.ensures static.0 static.1 in
    let none : HasNoMate p s c.args.winner = no_mate_shrinks p s static.0 within c.args.winner static.2 in
    both_ways c.no_mate.result (not-true c.no_mate.result is) (c.no_mate.ensures.1 none))
