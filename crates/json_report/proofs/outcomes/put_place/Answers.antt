use Rattle.json_report.proofs.Stepping.{◌then◌, next}
use Rattle.json_report.proofs.outcomes.put_place.Goals as goal

pub returns : goal.returns
returns c = λ more. next _ _ _ _ _ c.in_ok-put_count.ensures then next _ _ _ _ _ c.in_ok-put_count-2.ensures
