use Rattle.json_report.specs.Outcomes.{mates_members}
use Rattle.json_report.proofs.Stepping.{◌then◌, next}
use Rattle.json_report.proofs.mates.put_mates.Goals as goal

pub returns-in_ok-put_count-in-NoneWithin : goal.returns-in_ok-put_count-in-NoneWithin
unfolding mates_members
returns-in_ok-put_count-in-NoneWithin c = rw c.in-NoneWithin.is (next _ _ _ _ _ c.in_ok-put_null-in-NoneWithin.ensures then next _ _ _ _ _ (rw c.from.ensures at c.in_ok-put_count-in-NoneWithin.ensures))

pub returns-in_ok-put_truth-in-Found : goal.returns-in_ok-put_truth-in-Found
unfolding mates_members
returns-in_ok-put_truth-in-Found c =
    let plies = rw c.from-in-Found.ensures at c.in_ok-put_count-in-Found.ensures in
    let lines = rw c.items.ensures at c.in_ok-put_lines-in-Found.ensures in
    rw c.in-Found.is (next _ _ _ _ _ plies then next _ _ _ _ _ lines then next _ _ _ _ _ c.in_ok-put_truth-in-Found.ensures)
