use Rattle.std.proofs.Common.{None, refl, sym, ap, ◌∙◌}
use Rattle.cha_board.specs.Squares.{last_rank}
use Rattle.cha_moves.proofs.MateMoves.{Mates, not_by, none_between, where_none}
use Rattle.cha_moves.proofs.mating.mating_between.Goals as goal

pub returns-then-rank-promotion_rank-clause-none : goal.returns-then-rank-promotion_rank-clause-none
returns-then-rank-promotion_rank-clause-none c =
    let q = c.args.position.now in
    let w = c.args.winner in
    none_between q w c.args.from c.args.to
    (not_by (Mates q w) (record { from = c.args.from; to = c.args.to; promotion = None }) _ c.mates.result c.mates.ensures c.if-mates.false refl)
    (λ last. absurd (c.if-rank-promotion_rank.true (c.rank.ensures.value ∙ last ∙ ap last_rank (sym c.side.ensures) ∙ sym c.promotion_rank.ensures)))

pub returns-clause-none : goal.returns-clause-none
returns-clause-none c =
    let q = c.args.position.now in
    let w = c.args.winner in
    where_none c.mating_promotion.result _ _ (λ none.
    none_between q w c.args.from c.args.to
    (not_by (Mates q w) (record { from = c.args.from; to = c.args.to; promotion = None }) _ c.mates.result c.mates.ensures c.if-mates.false refl)
    (λ last. none)) c.mating_promotion.ensures.none
