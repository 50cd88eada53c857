use Rattle.std.proofs.Common.{arith}
use Rattle.std.proofs.lemmas.Grind.{common_steps}
use Rattle.cha_outside.proofs.Adding.{appends_next}
use Rattle.cha_outside.proofs.std_writer.WriteToSink.write.Goals as goal

pub loop-taken-preserved : goal.loop-taken-preserved
loop-taken-preserved g c = record {
  inside = grind (arith, common_steps, c.in-Ok.ensures.bound);
  front = appends_next _ _ _ c.args.bytes.now c.loop-taken.taken c.in-Ok.n c.loop-taken.invariant.front c.in-Ok.ensures.bytes;
  clean = c.loop-taken.invariant.clean;
}
