-- cha_san/proofs/resolving/with_moves/Answers.antt
use Rattle.std.proofs.Common.{◌≡◌, ◌==◌, false, sym, ap, ◌∙◌}
use Rattle.std.proofs.lemmas.Bool.{ne_eqb}
use Rattle.cha_board.specs.Squares.{rank_of, last_rank}
use Rattle.cha_san.proofs.Seeing.{seen_plain, seen_all}
use Rattle.cha_san.proofs.resolving.with_moves.Goals as goal

pub returns-then-rank-promotion_rank : goal.returns-then-rank-promotion_rank
returns-then-rank-promotion_rank c =
    let q = c.args.position.now in
    let other : (rank_of c.args.to == last_rank q.side) ≡ false =
    ap (λ n. n == last_rank q.side) (sym c.rank.ensures.value) ∙ ap (λ n. c.rank.result == n) (sym (c.promotion_rank.ensures ∙ ap last_rank c.side.ensures)) ∙ ne_eqb c.rank.result c.promotion_rank.result c.if-rank-promotion_rank.true in
    seen_plain q c.args.form.now c.args.found c.with_move-plain.result c.args.from c.args.to other c.with_move-plain.ensures

pub returns : goal.returns
returns c =
    seen_all c.args.position.now c.args.form.now c.args.found c.with_move-plain.result c.with_move-queen.result c.with_move-rook.result c.with_move-bishop.result c.with_move.result c.args.from c.args.to c.with_move-plain.ensures c.with_move-queen.ensures c.with_move-rook.ensures c.with_move-bishop.ensures c.with_move.ensures
