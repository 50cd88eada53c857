use Rattle.std.proofs.Common.{◌∙◌}
use Rattle.cha_board.proofs.Contents.{set_is}
use Rattle.mob_sets.specs.Rows.{sets_of}
use Rattle.mob_check.proofs.Grounds.{fixed_are}
use Rattle.mob_check.proofs.scene.fixed_squares.Goals as goal

pub returns : goal.returns
returns c =
    let r = c.args.sets.now in
    c.minus.ensures ∙ fixed_are c.args.position.now (sets_of r) c.loose.result c.occupied.result (c.loose.ensures.value ∙ set_is r.loose c.loose.ensures.width) c.occupied.ensures
