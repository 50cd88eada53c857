use Rattle.std.proofs.Common.{◌≡◌, ◌&&◌, ◌∙◌, ap, ℕ}
use Rattle.cha_board.specs.declared.men.Color.{Color}
use Rattle.cha_board.specs.Men.{other_color}
use Rattle.cha_board.specs.SquareSets.{set_of, has_square, set_common, set_minus}
use Rattle.mob_check.specs.declared.ground.SideGround.{SideGround}
use Rattle.mob_check.specs.Grounds.{side_in}
use Rattle.mob_check.proofs.Freeing.{struck_are}
use Rattle.mob_check.proofs.frees.struck.Goals as goal

pub returns : goal.returns
unfolding set_common set_minus
returns c =
    let g = c.args.ground.now in
    let side : c.side.result.now ≡ side_in g (other_color c.args.side) = c.side.ensures ∙ ap (λ (x : Color). side_in g x) c.other.ensures in
    struck_are g c.args.side c.args.kind c.args.row c.common-prey.result c.barred.result c.minus-free.result c.spread.result c.common.result
    (c.common-prey.ensures ∙ ap (λ (x : SideGround). set_of (λ (s : ℕ). has_square g.fixed s && has_square x.men s)) side)
    c.barred.ensures c.minus-free.ensures c.spread.ensures c.common.ensures
