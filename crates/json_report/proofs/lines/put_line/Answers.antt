use Rattle.json_report.proofs.Stepping.{◌then◌, next}
use Rattle.json_report.proofs.lines.put_line.Goals as goal

pub returns : goal.returns
returns c = λ more. next _ _ _ _ _ c.in_ok-put_moves.ensures then next _ _ _ _ _ c.in_ok-put_words.ensures
