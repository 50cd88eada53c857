use Rattle.std.proofs.Common.{◌∙◌}
use Rattle.mob_check.proofs.StruckSets.{near_aimed}
use Rattle.mob_check.proofs.attacks.struck_from.Goals as goal

pub returns : goal.returns
returns c = c.common.ensures ∙ rw (c.squares_near.ensures, c.aims.ensures) (near_aimed c.args.side c.args.seen c.args.king c.args.from c.args.kind)
