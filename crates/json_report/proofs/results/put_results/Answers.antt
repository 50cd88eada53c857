use Rattle.json_report.proofs.Stepping.{◌then◌, next}
use Rattle.json_report.proofs.results.put_results.Goals as goal

pub returns : goal.returns
returns c =
    let changed = rw c.changes_result.ensures at c.in_ok-put_truth.ensures in
    let flag = rw c.fallen_flag.ensures at c.in_ok-put_flag.ensures in
    next _ _ _ _ _ c.in_ok-put_scan.ensures then next _ _ _ _ _ c.in_ok-put_result.ensures then next _ _ _ _ _ c.in_ok-put_result-2.ensures then next _ _ _ _ _ changed then next _ _ _ _ _ c.in_ok-put_article.ensures then next _ _ _ _ _ c.in_ok-put_truth-2.ensures then next _ _ _ _ _ flag
