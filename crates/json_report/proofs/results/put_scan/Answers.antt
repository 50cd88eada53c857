use Rattle.json_report.specs.Outcomes.{scan_json}
use Rattle.json_report.proofs.Stepping.{◌then◌, next, keyed, whole}
use Rattle.json_report.proofs.results.put_scan.Goals as goal

pub returns-in_ok-end_object-in-Some : goal.returns-in_ok-end_object-in-Some
unfolding scan_json
returns-in_ok-end_object-in-Some c =
    let ply = rw c.from.ensures at c.in_ok-put_count-in-Some.ensures in
    rw c.in-Some.is (keyed _ _ _ _ _ c.in_ok-key-in-Some.ensures (whole _ _ _ _ _ c.in_ok-begin_object-in-Some.ensures (next _ _ _ _ _ ply then c.in_ok-put_edge-in-Some.ensures) c.in_ok-end_object-in-Some.ensures))
