use Rattle.std.proofs.Common.{◌<◌, ap, ◌∙◌, arith}
use Rattle.cha_board.specs.Men.{is_man}
use Rattle.cha_board.specs.Board.{man_at}
use Rattle.cha_board.specs.SquareSets.{set_of, has_square}
use Rattle.cha_board.specs.declared.men.Kind.TheVariants.{Pawn}
use Rattle.cha_moves.proofs.Touched.{man_among}
use Rattle.cha_moves.proofs.changes.is_own_pawn.Goals as goal

pub returns : goal.returns
returns c =
    let small : c.args.at < 64 = omega (arith, c.index-at.ensures.value, c.index-at.ensures.bound) in
    c.has.ensures ∙ ap (λ set. has_square set c.args.at) c.men.ensures ∙ ap (λ side. has_square (set_of (λ s. is_man side Pawn (man_at c.args.position.now.men s))) c.args.at) c.side.ensures
    ∙ man_among c.args.position.now.men c.args.position.now.side Pawn c.args.at small
