use Rattle.cha_board.specs.SquareSets.{set_minus}
use Rattle.mob_check.proofs.Going.{pieces_enter}
use Rattle.mob_check.proofs.goes.pieces_go.Goals as goal

pub returns : goal.returns
unfolding set_minus
returns c =
    pieces_enter c.args.ground.now c.args.side c.args.kind c.args.from c.spread.result c.barred.result c.minus-near.result c.minus.result
    c.requires c.spread.ensures c.barred.ensures c.minus-near.ensures c.minus.ensures
