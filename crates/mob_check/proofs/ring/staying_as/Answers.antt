use Rattle.mob_check.proofs.Enders.{staying_are}
use Rattle.mob_check.proofs.ring.staying_as.Goals as goal

pub returns : goal.returns
returns c =
    rw (c.minus.ensures, c.reach_as.ensures, c.enders.ensures, c.other.ensures) (staying_are c.args.scene.now c.args.king c.args.from c.args.kind)
