use Rattle.cha_decide.proofs.Backwards.{made_none}
use Rattle.cha_decide.proofs.searching.mate_in_two.Goals as goal

pub returns-in-Mate-clause-calls : goal.returns-in-Mate-clause-calls
returns-in-Mate-clause-calls g c = made_none g.F.Facts.made c.args.facts.now (g.met.F.Facts.none_made c.args.facts.now)
