use Rattle.json_report.proofs.Stepping.{whole, keyed}
use Rattle.json_report.proofs.verdicts.put_verdict.Goals as goal

pub returns : goal.returns
returns c = keyed _ _ _ _ _ c.in_ok-key.ensures (whole _ _ _ _ _ c.in_ok-begin_object.ensures c.in_ok-put_found.ensures c.in_ok-end_object.ensures)
