use Rattle.json_report.specs.Verdicts.{ground_members}
use Rattle.json_report.proofs.Stepping.{◌then◌, next}
use Rattle.json_report.proofs.grounds.put_ground.Goals as goal

pub returns-in_ok-put_text-in-Sets : goal.returns-in_ok-put_text-in-Sets
unfolding ground_members
returns-in_ok-put_text-in-Sets c = λ more. rw c.in-Sets.is (next _ _ _ _ _ c.in_ok-put_text-in-Sets.ensures)

pub returns-in_ok-put_text-in-Men : goal.returns-in_ok-put_text-in-Men
unfolding ground_members
returns-in_ok-put_text-in-Men c =
    let named = rw c.name.ensures at c.in_ok-put_text-in-Men.ensures in
    λ more. rw c.in-Men.is (next _ _ _ _ _ named)

pub returns-in_ok-put_count-in-Graph : goal.returns-in_ok-put_count-in-Graph
unfolding ground_members
returns-in_ok-put_count-in-Graph c = λ more. rw c.in-Graph.is (next _ _ _ _ _ c.in_ok-put_text-in-Graph.ensures then next _ _ _ _ _ c.in_ok-put_count-in-Graph.ensures)
