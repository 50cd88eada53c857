use Rattle.std.proofs.Common.{◌<◌, ◌∙◌, ap, arith}
use Rattle.cha_board.specs.SquareSets.{set_of_bits}
use Rattle.cha_board.specs.Rays.{rays_between}
use Rattle.cha_board.proofs.Betweens.{rays_shown}
use Rattle.cha_board.proofs.aiming.squares_between.Goals as goal

pub returns : goal.returns
returns c =
    let s = c.args.s in
    let t = c.args.t in
    let small : s < 64 = omega arith in
    let small' : t < 64 = omega arith in
    let first = c.from.ensures ∙ c.index.ensures.value in
    let second = c.from-2.ensures ∙ c.index-2.ensures.value in
    c.from_bits.ensures ∙ ap set_of_bits (c.between_rays.ensures ∙ ap (λ x. rays_between x c.from-2.result) first ∙ ap (rays_between s) second) ∙ rays_shown s t small small'
