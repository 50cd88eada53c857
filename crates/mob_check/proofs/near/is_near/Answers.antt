use Rattle.std.proofs.Common.{◌<◌, List, Bool, ap, ◌∙◌, arith}
use Rattle.cha_board.specs.SquareSets.{has_square}
use Rattle.mob_check.proofs.NextTo.{near_has}
use Rattle.mob_check.proofs.near.is_near.Goals as goal

pub returns : goal.returns
returns c =
    let small : c.args.other < 64 = omega arith in
    c.has.ensures ∙ ap (λ (set : List Bool). has_square set c.args.other) c.squares_near.ensures ∙ near_has c.args.one c.args.other small
