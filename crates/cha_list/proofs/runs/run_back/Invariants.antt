use Rattle.std.proofs.Common.{◌≡◌, ◌+◌, ◌-◌, ◌≤◌, length, take, reverse}
use Rattle.std.specs.List.{prefix_len, suffix_len}
use Rattle.cha_list.proofs.runs.run_back.Given as goal

-- the run goes on backwards from here
abbrev pub invariant-loop-start : goal.invariant-loop-start
invariant-loop-start g l = record {
  inside : l.start ≤ length l.bytes;
  run : (length l.bytes - l.start) + prefix_len (g.C.ByteClass.has l.class) (reverse (take l.start l.bytes)) ≡ suffix_len (g.C.ByteClass.has l.class) l.bytes;
}

abbrev pub decreases-loop-start : goal.decreases-loop-start
decreases-loop-start g l = l.start
