use Rattle.std.proofs.Common.{arith, ◌+◌, ◌-◌, ap, false}
use Rattle.cha_fen.proofs.Addings.{row_end_at, row_fails_at, row_step_at, end_test}
use Rattle.cha_fen.proofs.placement.add_row.Goals as goal

pub returns-then-not-add_squares-clause-added : goal.returns-then-not-add_squares-clause-added
returns-then-not-add_squares-clause-added c =
    c.loop-byte.invariant.rest false c.loop-byte.men.items
    (row_fails_at c.args.bytes.now c.loop-byte.byte-index _ _ c.loop-byte-test.true (ap (λ n. c.len-end.result + 8 - n) c.len.ensures.value) c.if-not-add_squares.ensures.added)

pub loop-byte-preserved : goal.loop-byte-preserved
loop-byte-preserved c = record {
  low = omega (arith, c.add_squares.ensures.grown, c.loop-byte.invariant.low);
  high = omega (arith, c.if-not-add_squares.ensures.size, c.loop-byte.invariant.high, c.len.ensures.value);
  rest = λ r out h. c.loop-byte.invariant.rest r out (row_step_at c.args.bytes.now c.loop-byte.byte-index _ _ _ _ _ out r c.loop-byte-test.true (ap (λ n. c.len-end.result + 8 - n) c.len.ensures.value) c.if-not-add_squares.ensures.added (omega (arith, c.if-not-add_squares.ensures.size, c.loop-byte.invariant.high, c.len.ensures.value)) h);
}

pub returns-clause-added : goal.returns-clause-added
returns-clause-added c =
    c.loop-byte.invariant.rest _ c.loop-byte.men.items (row_end_at c.args.bytes.now c.loop-byte.byte-index _ _ _ (omega arith) (end_test _ _ _ c.len-2.ensures.value c.loop-byte.invariant.high))
