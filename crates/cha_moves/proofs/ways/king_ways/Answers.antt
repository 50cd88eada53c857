use Rattle.std.proofs.Common.{◌≡◌, ◌<◌, ◌∙◌, arith}
use Rattle.cha_board.specs.declared.men.Kind.TheVariants.{King}
use Rattle.cha_board.specs.Squares.{aims_at}
use Rattle.cha_board.specs.SquareSets.{set_of}
use Rattle.cha_moves.proofs.Goings.{king_aimed}
use Rattle.cha_moves.proofs.Pushes.{king_goes}
use Rattle.cha_moves.proofs.ways.king_ways.Goals as goal

pub returns : goal.returns
returns c =
    let q = c.args.position.now in
    let s = c.args.s in
    let small : s < 64 = omega arith in
    let near : c.aims-near.result ≡ set_of (aims_at q.side King s) = c.aims-near.ensures ∙ rw (c.side.ensures, c.occupied.ensures) (king_aimed q.men q.side s small) in
    c.with_castling.ensures ∙ king_goes q s c.aims-near.result c.with_castling-kingside.result near c.with_castling-kingside.ensures
