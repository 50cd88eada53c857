use Rattle.json_report.proofs.Stepping.{next}
use Rattle.json_report.proofs.results.put_edge.Goals as goal

pub returns-in_ok-put_count-in-Unclear : goal.returns-in_ok-put_count-in-Unclear
returns-in_ok-put_count-in-Unclear c = rw c.in-Unclear.is (next _ _ _ _ _ (rw (c.from.ensures, c.saturating_sub.ensures) at c.in_ok-put_count-in-Unclear.ensures))
