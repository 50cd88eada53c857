use Rattle.std.proofs.Common.{◌<◌, sym, ap, ◌∙◌, arith}
use Rattle.cha_board.specs.declared.men.Color.TheVariants.{White}
use Rattle.cha_board.specs.declared.men.Kind.TheVariants.{Rook}
use Rattle.cha_board.specs.SquareSets.{set_joined}
use Rattle.cha_board.specs.Aims.{aimed}
use Rattle.cha_board.proofs.Striking.{bishop_of, rook_of, queen_of, pawn_aims, knight_aims, king_aims}
use Rattle.cha_board.proofs.aiming.aims.Goals as goal

pub returns-in-Pawn : goal.returns-in-Pawn
returns-in-Pawn c =
    let small : c.args.from < 64 = omega arith in
    c.aims_alone.ensures ∙ pawn_aims c.args.of c.args.from c.args.occupied small ∙ ap (λ k. aimed c.args.of k c.args.from c.args.occupied) (sym c.in-Pawn.is)

pub returns-in-Knight : goal.returns-in-Knight
returns-in-Knight c =
    let small : c.args.from < 64 = omega arith in
    c.aims_alone-in-Knight.ensures ∙ knight_aims c.args.of c.args.from c.args.occupied small ∙ ap (λ k. aimed c.args.of k c.args.from c.args.occupied) (sym c.in-Knight.is)

pub returns-in-King : goal.returns-in-King
returns-in-King c =
    let small : c.args.from < 64 = omega arith in
    c.aims_alone-in-King.ensures ∙ king_aims c.args.of c.args.from c.args.occupied small ∙ ap (λ k. aimed c.args.of k c.args.from c.args.occupied) (sym c.in-King.is)

pub returns-in-Bishop : goal.returns-in-Bishop
returns-in-Bishop c = c.bishop_aims.ensures ∙ bishop_of c.args.of c.args.from c.args.occupied ∙ ap (λ k. aimed c.args.of k c.args.from c.args.occupied) (sym c.in-Bishop.is)

pub returns-in-Rook : goal.returns-in-Rook
returns-in-Rook c = c.rook_aims.ensures ∙ rook_of c.args.of c.args.from c.args.occupied ∙ ap (λ k. aimed c.args.of k c.args.from c.args.occupied) (sym c.in-Rook.is)

pub returns-in-Queen : goal.returns-in-Queen
returns-in-Queen c =
    c.joined.ensures ∙ ap (λ x. set_joined x c.bishop_aims-in-Queen.result) c.rook_aims-in-Queen.ensures ∙ ap (set_joined (aimed White Rook c.args.from c.args.occupied)) c.bishop_aims-in-Queen.ensures
    ∙ queen_of c.args.of c.args.from c.args.occupied ∙ ap (λ k. aimed c.args.of k c.args.from c.args.occupied) (sym c.in-Queen.is)
