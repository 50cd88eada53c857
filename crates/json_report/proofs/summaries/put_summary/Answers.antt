use Rattle.json_report.proofs.Stepping.{◌then◌, whole}
use Rattle.json_report.proofs.summaries.put_summary.Goals as goal

pub returns : goal.returns
returns c = whole _ _ _ _ _ c.in_ok-begin_object.ensures (c.in_ok-put_counts.ensures _ then c.in_ok-put_closed.ensures) c.in_ok-end_object.ensures
