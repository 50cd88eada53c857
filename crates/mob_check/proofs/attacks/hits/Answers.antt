use Rattle.std.proofs.Common.{◌<◌, List, Bool, ap, ◌∙◌, arith}
use Rattle.cha_board.specs.Aims.{aims_over, aimed}
use Rattle.cha_board.specs.SquareSets.{has_square}
use Rattle.cha_board.proofs.SetLaws.{has-set_of}
use Rattle.mob_check.proofs.attacks.hits.Goals as goal

pub returns : goal.returns
unfolding aimed
returns c =
    let small : c.args.king < 64 = omega arith in
    let scene = c.args.scene.now in
    c.has.ensures ∙ ap (λ (x : List Bool). has_square x c.args.king) c.aims.ensures ∙ has-set_of (aims_over scene.winner c.args.kind c.args.from scene.fixed) c.args.king small
