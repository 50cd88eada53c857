use Rattle.std.proofs.Common.{◌≡◌, ◌-◌, ◌≤◌, length, take}
use Rattle.std.specs.Io.KnownBytes.{Appends}
use Rattle.cha_outside.specs.Adapters.{writer_of, write_faults}
use Rattle.cha_outside.proofs.std_writer.WriteToSink.write.Given as goal

-- the writer took the front of the piece, and nothing failed yet
abbrev pub invariant-loop-taken : goal.invariant-loop-taken
invariant-loop-taken g l = record {
  inside : l.taken ≤ length l.bytes;
  front : Appends (g.W.Write.contents (writer_of l.fn.self)) (g.W.Write.contents (writer_of l.self)) (take l.taken l.bytes);
  clean : write_faults l.self ≡ write_faults l.fn.self;
}

abbrev pub decreases-loop-taken : goal.decreases-loop-taken
decreases-loop-taken g l = length l.bytes - l.taken
