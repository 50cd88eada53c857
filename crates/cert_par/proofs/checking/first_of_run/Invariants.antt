use Rattle.std.proofs.Common.{◌+◌}
use Rattle.cha_cert.specs.Shared.{expansion}
use Rattle.cert_par.specs.Failing.{HoldBefore}
use Rattle.cert_par.proofs.checking.first_of_run.Given as goal

-- the nodes so far hold
abbrev pub invariant-loop-number : goal.invariant-loop-number
invariant-loop-number l = HoldBefore l.fn.winner (expansion l.cert) (l.fn.from + l.number)
