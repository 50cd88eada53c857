use Rattle.std.proofs.Common.{◌<◌, arith}
use Rattle.mob_check.proofs.Enders.{enders_are}
use Rattle.mob_check.proofs.ring.enders.Goals as goal

pub returns : goal.returns
returns c =
    let small : c.args.from < 64 = omega arith in
    rw (c.spread.ensures, c.other.ensures, c.ends.ensures) (enders_are c.args.side c.args.kind c.args.king c.args.from small)
