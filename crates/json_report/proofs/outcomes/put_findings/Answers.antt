use Rattle.json_report.proofs.Stepping.{◌then◌, next}
use Rattle.json_report.proofs.outcomes.put_findings.Goals as goal

pub returns : goal.returns
returns c = λ more. next _ _ _ _ _ c.in_ok-put_fen.ensures then next _ _ _ _ _ c.in_ok-put_verdict.ensures then next _ _ _ _ _ c.in_ok-put_verdict-2.ensures then next _ _ _ _ _ c.in_ok-put_state.ensures
