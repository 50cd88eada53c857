use Rattle.cha_board.specs.SquareSets.{set_minus}
use Rattle.std.proofs.Common.{ap, ◌∙◌}
use Rattle.cha_board.specs.declared.men.Color.{Color}
use Rattle.mob_check.specs.declared.ground.SideGround.{SideGround}
use Rattle.mob_check.specs.Grounds.{side_in}
use Rattle.mob_check.proofs.Going.{capturable_at}
use Rattle.mob_check.proofs.goes.capturable.Goals as goal

pub returns : goal.returns
unfolding set_minus
returns c =
    capturable_at c.args.ground.now c.args.side c.side.result.now.reach c.minus-enemies.result c.side-2.result.now.target c.joined.result
    (ap (λ (x : SideGround). x.reach) (c.side.ensures ∙ ap (λ (x : Color). side_in c.args.ground.now x) c.other.ensures))
    c.minus-enemies.ensures (ap (λ (x : SideGround). x.target) c.side-2.ensures) c.joined.ensures
