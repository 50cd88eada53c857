use Rattle.std.proofs.Common.{append_assoc, refl}
use Rattle.flag_report.specs.Plies.{unreadable_line}
use Rattle.flag_report.proofs.plies.put_unreadable.Goals as goal

pub returns : goal.returns
unfolding unreadable_line
returns c = simp (c.in_ok-append-2.ensures.ok, c.in_ok-put_reason.ensures, c.in_ok-append.ensures.ok, append_assoc) refl
