use Rattle.std.proofs.Common.{arith}
use Rattle.cert_text.specs.SharedSpelled.{set_lines}
use Rattle.cert_text.specs.Writable.{IsWritableSets}
use Rattle.cert_text.proofs.Writing.{no_lines, kept_more}
use Rattle.cert_text.proofs.SharedWriting.{item_more}
use Rattle.cert_text.proofs.shared_spelled.put_all_sets.Goals as goal

pub loop-sets-init : goal.loop-sets-init
loop-sets-init c = record { text = no_lines c.args.text.now; writable = λ k d less. absurd (omega (arith, less)) }

pub loop-sets-preserved : goal.loop-sets-preserved
loop-sets-preserved c = record {
  text =
      item_more set_lines c.args.text.now c.loop-sets.text c.put_sets.new.text c.args.all.now c.loop-sets.sets-index c.sets-item.result c.loop-sets-test.true c.sets-item.is c.loop-sets.invariant.text c.in_ok-put_sets.ensures.text;
  writable =
      kept_more IsWritableSets c.args.all.now c.loop-sets.sets-index c.sets-item.result c.loop-sets-test.true c.sets-item.is
      (c.in_ok-put_sets.ensures.tidy, c.in_ok-put_sets.ensures.known, c.in_ok-put_sets.ensures.width) c.loop-sets.invariant.writable;
}
