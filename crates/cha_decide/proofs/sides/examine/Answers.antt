use Rattle.cha_decide.specs.Shown.{IsFoundAlone}
use Rattle.cha_decide.proofs.Asking.{asked_first, asked_then}
use Rattle.cha_decide.proofs.sides.examine.Goals as goal

pub returns-in-Some-clause-found : goal.returns-in-Some-clause-found
returns-in-Some-clause-found g c =
    let found : IsFoundAlone c.args.position.now c.args.winner c.in-Some.verdict = rw c.in-Some.is at c.in_ok-verdict.ensures in
    found c.args.limits.now

pub returns-in-Some-clause-calls : goal.returns-in-Some-clause-calls
returns-in-Some-clause-calls g c = asked_first g.C.Facts.made g.met.C.Facts.both_made c.args.crew.now c.ask-known.new.facts c.args.position.now c.args.winner c.ask-known.result _ c.ask-known.ensures.entered

pub returns-clause-calls : goal.returns-clause-calls
returns-clause-calls g c =
    asked_then g.C.Facts.made g.met.C.Facts.both_made c.args.crew.now c.ask-known.new.facts c.deepened.new.crew c.args.position.now c.args.winner c.ask-known.result _ c.ask-known.ensures.entered c.deepened.ensures.calls
