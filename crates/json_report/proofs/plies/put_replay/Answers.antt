use Rattle.json_report.proofs.Stepping.{◌then◌, next}
use Rattle.json_report.proofs.plies.put_replay.Goals as goal

pub returns : goal.returns
returns c =
    let plies = rw c.items.ensures at c.in_ok-put_plies.ensures in
    next _ _ _ _ _ c.in_ok-put_start.ensures then next _ _ _ _ _ plies then next _ _ _ _ _ c.in_ok-put_why.ensures
