use Rattle.json_report.proofs.Stepping.{next}
use Rattle.json_report.proofs.summaries.put_closed.Goals as goal

pub returns-in_ok-put_truth-in-Some : goal.returns-in_ok-put_truth-in-Some
returns-in_ok-put_truth-in-Some c = rw c.in-Some.is (next _ _ _ _ _ c.in_ok-put_truth-in-Some.ensures)
