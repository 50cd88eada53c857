use Rattle.std.proofs.Common.{◌∙◌}
use Rattle.cha_moves.proofs.Goings.{barred_of}
use Rattle.cha_moves.proofs.ways.barred.Goals as goal

pub returns : goal.returns
returns c =
    c.joined.ensures
    ∙ rw (c.of_side-own.ensures, c.men.ensures, c.placement.ensures.value, c.other.ensures, c.requires) (barred_of c.args.position.now.men c.args.position.now.side)
