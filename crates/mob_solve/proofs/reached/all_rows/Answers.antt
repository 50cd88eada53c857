use Rattle.cha_board.specs.declared.men.Kind.TheVariants.{Pawn, Knight, Bishop, Rook, Queen, King}
use Rattle.mob_solve.specs.Reaching.{row_of}
use Rattle.mob_check.proofs.Grounds.{six_joined}
use Rattle.mob_solve.proofs.reached.all_rows.Goals as goal

pub returns : goal.returns
returns c =
    let r = c.args.reach.now in
    let o = c.args.origin in
    rw (c.joined-5.ensures, c.joined-4.ensures, c.joined-3.ensures, c.joined-2.ensures, c.joined.ensures, c.row.ensures, c.row-2.ensures, c.row-3.ensures, c.row-4.ensures, c.row-5.ensures, c.row-6.ensures)
    (six_joined (row_of r o Pawn) (row_of r o Knight) (row_of r o Bishop) (row_of r o Rook) (row_of r o Queen) (row_of r o King))
