use Rattle.cha_decide.proofs.Asking.{rounds_then}
use Rattle.cha_decide.proofs.searching.deepened_further.Goals as goal

pub returns-in-NoneWithin-clause-calls : goal.returns-in-NoneWithin-clause-calls
returns-in-NoneWithin-clause-calls g c =
    rounds_then g.C.Facts.made g.met.C.Facts.both_made _ c.args.crew.now c.rounds.new.crew c.explored.new.facts _ c.args.position.now c.args.winner c.args.limits.now c.rounds.result c.rounds.ensures.calls c.explored.ensures.calls
