use Rattle.json_report.proofs.Stepping.{◌then◌, next}
use Rattle.json_report.proofs.outcomes.put_game.Goals as goal

pub returns : goal.returns
returns c = λ more. next _ _ _ _ _ c.in_ok-put_count.ensures then c.in_ok-put_span.ensures more
