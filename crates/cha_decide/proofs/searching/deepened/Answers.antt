use Rattle.cha_decide.proofs.Backwards.{made_both}
use Rattle.cha_decide.proofs.searching.deepened.Goals as goal

pub returns-in-None-clause-calls : goal.returns-in-None-clause-calls
returns-in-None-clause-calls g c = made_both g.C.Facts.made g.met.C.Facts.both_made c.args.crew.now c.mate_in_two.new.facts c.deepened_further.new.crew c.mate_in_two.ensures.calls c.deepened_further.ensures.calls
