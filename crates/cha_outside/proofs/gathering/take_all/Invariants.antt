use Rattle.std.proofs.Common.{◌≤◌, ◌+◌, ◌-◌, max, vec_len}
use Rattle.cha_outside.specs.Gathering.{Gathers}
use Rattle.cha_outside.proofs.gathering.take_all.Given as goal

-- what the source gave stands in the list, and the last read brought no more than its buffer holds
abbrev pub invariant-loop-piece : goal.invariant-loop-piece
invariant-loop-piece g l = record {
  took : Gathers (g.S.Source.left l.fn.source) (g.S.Source.left l.source) l.fn.taken.items l.taken.items;
  few : vec_len l.taken ≤ max (vec_len l.fn.taken) (l.limit + 4096);
  later : g.S.Source.faults l.fn.source ≤ g.S.Source.faults l.source;
}

-- each turn takes a byte, meets the end or fails
abbrev pub decreases-loop-piece : goal.decreases-loop-piece
decreases-loop-piece g l = l.limit + 1 - vec_len l.taken
