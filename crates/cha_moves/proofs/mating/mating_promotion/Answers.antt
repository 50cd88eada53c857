use Rattle.cha_moves.proofs.MateMoves.{Mates, not_by, no_promotion_mates}
use Rattle.cha_moves.proofs.mating.mating_promotion.Goals as goal

pub returns-clause-none : goal.returns-clause-none
returns-clause-none c =
    let q = c.args.position.now in
    let w = c.args.winner in
    no_promotion_mates q w c.args.from c.args.to
    (not_by (Mates q w) c.promotion-queen.result _ c.mates.result c.mates.ensures c.if-mates.false c.promotion-queen.ensures)
    (not_by (Mates q w) c.promotion-rook.result _ c.mates-2.result c.mates-2.ensures c.if-mates-2.false c.promotion-rook.ensures)
    (not_by (Mates q w) c.promotion-bishop.result _ c.mates-3.result c.mates-3.ensures c.if-mates-3.false c.promotion-bishop.ensures)
    (not_by (Mates q w) c.promotion-knight.result _ c.mates-4.result c.mates-4.ensures c.if-mates-4.false c.promotion-knight.ensures)
