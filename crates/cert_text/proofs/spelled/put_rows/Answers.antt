use Rattle.std.proofs.Common.{◌<◌, arith}
use Rattle.cert_text.proofs.Writing.{no_lines, row_more, kept_more}
use Rattle.cert_text.proofs.spelled.put_rows.Goals as goal

pub loop-row-init : goal.loop-row-init
loop-row-init c = record { text = no_lines c.args.text.now; known = λ k d less. absurd (omega (arith, less)) }

pub loop-row-preserved : goal.loop-row-preserved
loop-row-preserved c = record {
  text =
      row_more c.args.text.now c.loop-row.text c.put_row.new.text c.push.new.self c.args.rows.now c.loop-row.row-index c.row-item.result c.loop-row-test.true c.row-item.is
      c.loop-row.invariant.text c.in_ok-put_row.ensures.text c.in_ok-push.ensures.ok;
  known = kept_more (λ row. row.origin < 64) c.args.rows.now c.loop-row.row-index c.row-item.result c.loop-row-test.true c.row-item.is c.in_ok-put_row.ensures.known c.loop-row.invariant.known;
}
