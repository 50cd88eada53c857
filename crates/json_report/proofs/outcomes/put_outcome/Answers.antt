use Rattle.json_report.proofs.Stepping.{◌then◌, whole}
use Rattle.json_report.proofs.outcomes.put_outcome.Goals as goal

pub returns : goal.returns
returns c = whole _ _ _ _ _ c.in_ok-begin_object.ensures (c.in_ok-put_which.ensures _ then c.in_ok-put_found.ensures) c.in_ok-end_object.ensures
