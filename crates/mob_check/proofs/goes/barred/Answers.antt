use Rattle.std.proofs.Common.{ap, sym, ◌∙◌, List, Bool}
use Rattle.cha_board.specs.declared.men.Color.{Color}
use Rattle.cha_board.specs.SquareSets.{has_square}
use Rattle.mob_check.specs.declared.ground.SideGround.{SideGround}
use Rattle.mob_check.specs.Grounds.{side_in}
use Rattle.cha_board.proofs.Contents.{in_empty}
use Rattle.mob_check.proofs.Going.{barred_king, barred_other}
use Rattle.mob_check.proofs.goes.barred.Goals as goal

pub returns-then-is : goal.returns-then-is
returns-then-is c = λ t small.
    barred_king c.args.ground.now c.args.side c.args.kind c.side.result.now.guards (sym c.is.ensures ∙ c.if-is.true)
    (ap (λ (x : SideGround). x.guards) (c.side.ensures ∙ ap (λ (x : Color). side_in c.args.ground.now x) c.other.ensures)) t

pub returns-else-is : goal.returns-else-is
returns-else-is c = λ t small.
    barred_other c.args.ground.now c.args.side c.args.kind c.empty.result (sym c.is.ensures ∙ c.if-is.false) (λ x. ap (λ (s : List Bool). has_square s x) c.empty.ensures ∙ in_empty x) t
