use Rattle.std.proofs.Common.{◌∙◌}
use Rattle.cha_board.specs.Board.{home_of, corner_of}
use Rattle.cha_board.proofs.Betweens.{open_is}
use Rattle.cha_moves.proofs.Goings.{occupied_in, open_is_clear}
use Rattle.cha_moves.proofs.goes.has_clear_way.Goals as goal

pub returns : goal.returns
returns c =
    let men = c.args.position.now.men in
    let home = home_of c.args.side in
    let corner = corner_of c.args.side c.args.wing in
    c.is_empty.ensures ∙ rw (c.common.ensures, c.way.ensures, c.occupied.ensures) (open_is (occupied_in men) home corner ∙ open_is_clear men home corner)
