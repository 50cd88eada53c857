use Rattle.std.proofs.Common.{◌≡◌, ◌+◌, ◌-◌, ◌≤◌, length, drop}
use Rattle.std.specs.List.{prefix_len}
use Rattle.cha_list.proofs.runs.run_of.Given as goal

-- the run goes on from here
abbrev pub invariant-loop-end : goal.invariant-loop-end
invariant-loop-end g l = record {
  inside : l.end ≤ length l.bytes;
  run : l.end + prefix_len (g.C.ByteClass.has l.class) (drop l.end l.bytes) ≡ prefix_len (g.C.ByteClass.has l.class) l.bytes;
}

abbrev pub decreases-loop-end : goal.decreases-loop-end
decreases-loop-end g l = length l.bytes - l.end
