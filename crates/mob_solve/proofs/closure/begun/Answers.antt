use Rattle.std.proofs.lemmas.Bool.{both_ways}
use Rattle.mob_sets.specs.Mobility.{IsWithin}
use Rattle.mob_sets.specs.Rows.{sets_of}
use Rattle.mob_solve.specs.Reaching.{sets_in}
use Rattle.mob_solve.proofs.Entered.{within_then}
use Rattle.mob_solve.proofs.closure.begun.Goals as goal

pub returns : goal.returns
returns c = λ r closed.
    let nothing : IsWithin (sets_in c.empty-reach.result) r = record {
      has = λ o k u h. absurd (both_ways _ (c.empty-reach.ensures.rows o k u) h);
      loose = λ o h. absurd (both_ways _ (c.empty-reach.ensures.loose o) h);
    } in
    within_then (sets_of c.in_ok-sets.sets) (sets_in c.pass-first.new.reach) r c.in_ok-sets.ensures.inside (c.pass-first.ensures.inside r closed nothing)
