use Rattle.std.proofs.Common.{◌∙◌}
use Rattle.mob_check.proofs.Grounds.{guarded_with}
use Rattle.mob_check.proofs.ground.guarded_as.Goals as goal

pub returns : goal.returns
returns c = λ s is.
    c.spread.ensures ∙ rw (c.common.ensures, c.men.ensures) (guarded_with c.args.position.now s c.args.side c.args.kind c.args.fixed is)
