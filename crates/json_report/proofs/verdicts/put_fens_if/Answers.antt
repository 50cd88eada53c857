use Rattle.json_report.proofs.Stepping.{next}
use Rattle.json_report.proofs.verdicts.put_fens_if.Goals as goal

pub returns-in_ok-put_fens : goal.returns-in_ok-put_fens
returns-in_ok-put_fens c = rw c.if-fens.true (next _ _ _ _ _ c.in_ok-put_fens.ensures)
