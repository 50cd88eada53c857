use Rattle.std.proofs.Common.{arith, ap, not, refl}
use Rattle.pgn_lex.proofs.Passing.{next_piece, no_piece, next_inside}
use Rattle.pgn_lex.proofs.reading.tokens_of.Goals as goal

pub loop-at-preserved : goal.loop-at-preserved
loop-at-preserved c = record {
  inside = next_inside c.args.bytes.now _ c.loop-at.at c.in_ok-piece.piece.more c.loop-at-test.true c.split_at.ensures.back c.in_ok-piece.ensures.bound;
  low = omega (arith, c.loop-at.invariant.low, c.behind-line.ensures.bound);
  tokens = next_piece c.args.bytes.now _ c.loop-at.at c.loop-at.line _ _ _ c.loop-at.first _ c.in_ok-piece.piece c.loop-at.out.items _ _ c.loop-at-test.true c.split_at.ensures.back
      c.in_ok-piece.ensures.value c.in_ok-piece.ensures.bound refl refl c.behind-line.ensures.value (ap not c.is_of-first.ensures) c.in_ok-place.ensures.ok c.loop-at.invariant.tokens;
}

pub returns : goal.returns
returns c = no_piece c.args.bytes.now c.loop-at.at c.loop-at.line c.loop-at.first c.loop-at.out.items _ (omega arith) c.loop-at.invariant.tokens
