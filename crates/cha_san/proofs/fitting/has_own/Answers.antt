use Rattle.std.proofs.Common.{◌<◌, ap, ◌∙◌, arith}
use Rattle.cha_board.specs.Men.{is_man}
use Rattle.cha_board.specs.Board.{man_at}
use Rattle.cha_board.specs.SquareSets.{set_of, has_square}
use Rattle.cha_board.proofs.SetLaws.{has-set_of}
use Rattle.cha_san.proofs.fitting.has_own.Goals as goal

pub returns : goal.returns
returns c =
    let q = c.args.position.now in
    let kind = c.args.kind in
    let small : c.args.at < 64 = omega (arith, c.index-at.ensures.value, c.index-at.ensures.bound) in
    c.has.ensures ∙ ap (λ set. has_square set c.args.at) c.men.ensures ∙ ap (λ side. has_square (set_of (λ s. is_man side kind (man_at q.men s))) c.args.at) c.side.ensures
    ∙ has-set_of (λ s. is_man q.side kind (man_at q.men s)) c.args.at small
