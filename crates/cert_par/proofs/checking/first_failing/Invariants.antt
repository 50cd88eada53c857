use Rattle.std.proofs.Common.{◌≡◌, ◌-◌, ◌≤◌, length}
use Rattle.cha_cert.specs.Shared.{expansion}
use Rattle.cert_par.specs.Failing.{HoldBefore}
use Rattle.cert_par.proofs.checking.first_failing.Given as goal

-- the nodes before the next run hold
abbrev pub invariant-loop-from : goal.invariant-loop-from
invariant-loop-from g l = record {
  size : l.count ≡ length l.cert.nodes;
  inside : l.from ≤ l.count;
  before : HoldBefore l.winner (expansion l.cert) l.from;
}

abbrev pub decreases-loop-from : goal.decreases-loop-from
decreases-loop-from g l = l.count - l.from
