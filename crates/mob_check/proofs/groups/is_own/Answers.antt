use Rattle.std.proofs.Common.{◌<◌, ap, ◌∙◌, arith}
use Rattle.cha_board.specs.Men.{is_non_king}
use Rattle.cha_board.specs.Board.{man_at}
use Rattle.cha_board.specs.SquareSets.{has_square}
use Rattle.cha_board.proofs.SetLaws.{has-set_of}
use Rattle.mob_sets.specs.Rows.{Row}
use Rattle.mob_check.proofs.groups.is_own.Goals as goal

pub returns : goal.returns
returns c =
    let p = c.args.position.now in
    let origin = c.row.inside.origin in
    let small : c.row.inside.origin < 64 = omega arith in
    c.has.ensures ∙ ap (λ set. has_square set origin) c.non_kings.ensures ∙ has-set_of (λ s. is_non_king c.args.side (man_at p.men s)) origin small
    ∙ ap (λ (r : Row). is_non_king c.args.side (man_at p.men r.origin)) c.row.view_is
