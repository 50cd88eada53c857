use Rattle.std.proofs.Common.{sym, ap, ◌∙◌}
use Rattle.cha_board.specs.Men.{same_color}
use Rattle.cha_board.proofs.Identity.{same_color_self}
use Rattle.cha_moves.proofs.Pushes.{ways_of_man}
use Rattle.cha_moves.proofs.ways.own_ways.Goals as goal

pub returns : goal.returns
returns c =
    let q = c.args.position.now in
    let side = c.args.side in
    let own = ap (same_color side) (sym c.requires.side) ∙ same_color_self side in
    c.minus.ensures ∙ rw (c.kind_ways.ensures, c.barred.ensures) (ways_of_man q c.args.from (record { color = side; kind = c.args.kind }) c.requires.man own)
