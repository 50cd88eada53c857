use Rattle.std.proofs.Common.{◌<◌, ◌∙◌, arith}
use Rattle.cha_moves.proofs.Facing.{aimers_are}
use Rattle.cha_moves.proofs.shields.aimers_of.Goals as goal

pub returns : goal.returns
returns c =
    let small : c.args.at < 64 = omega arith in
    c.common.ensures ∙ rw (c.men-men.ensures, c.aims_alone.ensures) (aimers_are c.args.position.now.men c.args.by c.other.result c.args.kind c.args.at small c.other.ensures)
