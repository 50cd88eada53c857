use Rattle.std.proofs.Common.{arith}
use Rattle.shard_table.proofs.OneEntry.{first_both}
use Rattle.finding_tests.proofs.tables.store_all.Goals as goal

pub loop-number-preserved : goal.loop-number-preserved
loop-number-preserved g c =
    let before = c.loop-number.invariant in
    let one = c.store_one-one.ensures in
    let few = one.few in
    let at = c.loop-number.auto in
    record {
      of = one.of;
      first = first_both c.args.pass c.loop-number.pass c.store_one-one.new.pass before.first one.first;
      stand = omega (arith, before.stand, few.0, at);
      found = omega (arith, before.found, few.1, at);
    }
