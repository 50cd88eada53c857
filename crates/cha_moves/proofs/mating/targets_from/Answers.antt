use Rattle.std.proofs.Common.{sym, ◌∙◌}
use Rattle.cha_moves.proofs.MateMoves.{goes_way, none_from}
use Rattle.cha_moves.proofs.Checking.{checks_there}
use Rattle.cha_moves.proofs.mating.targets_from.Goals as goal

pub returns-in-None : goal.returns-in-None
returns-in-None c m mates from = absurd (none_from c.args.position.now c.args.from (sym c.man.ensures ∙ c.in-None.is) m mates.0 from)

pub returns-then-has : goal.returns-then-has
returns-then-has c m mates from = goes_way c.args.position.now c.ways_of-ways.result c.args.from c.ways_of-ways.ensures m mates.0 from

pub returns-else-has : goal.returns-else-has
returns-else-has c m mates from =
    checks_there c.args.position.now c.args.winner c.in-Some.man c.args.from c.ways_of-ways.result c.checks_by.result c.common.result c.args.lines c.known.ensures (sym c.man.ensures ∙ c.in-Some.is) c.ways_of-ways.ensures c.checks_by.ensures c.common.ensures c.requires (sym c.has.ensures ∙ c.if-has.false) m mates from
