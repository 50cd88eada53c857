use Rattle.std.proofs.Common.{◌≡◌, ◌-◌, ◌+◌, false, cond}
use Rattle.mob_sets.specs.Mobility.{Sets, IsWithin}
use Rattle.mob_law.specs.Closed.{IsClosed}
use Rattle.mob_solve.specs.Reaching.{sets_in, total_of}
use Rattle.mob_solve.proofs.closure.grown.Given as goal

abbrev pub invariant-loop-grew : goal.invariant-loop-grew
invariant-loop-grew l = record {
  closed : l.grew ≡ false → IsClosed l.position (sets_in l.reach);
  inside : (r : Sets) → IsClosed l.position r → IsWithin (sets_in l.reach) r;
}

abbrev pub decreases-loop-grew : goal.decreases-loop-grew
decreases-loop-grew l = (24640 - total_of l.reach) + cond l.grew 1 0
