use Rattle.json_report.proofs.Stepping.{keyed, whole_array}
use Rattle.json_report.proofs.plies.put_plies.Goals as goal

pub returns : goal.returns
returns c = keyed _ _ _ _ _ c.in_ok-key.ensures (whole_array _ _ _ _ _ c.in_ok-begin_array.ensures c.in_ok-put_from.ensures c.in_ok-end_array.ensures)
