use Rattle.json_report.specs.Verdicts.{verdict_members, cert_members}
use Rattle.json_report.proofs.Stepping.{◌then◌, next}
use Rattle.json_report.proofs.verdicts.put_found.Goals as goal

pub returns-in_ok-put_fens_if-in-Winnable : goal.returns-in_ok-put_fens_if-in-Winnable
unfolding verdict_members
returns-in_ok-put_fens_if-in-Winnable c =
    rw (c.in-Winnable.is, ← c.items-moves.ensures) (next _ _ _ _ _ c.in_ok-put_text-in-Winnable.ensures then next _ _ _ _ _ c.in_ok-put_count-in-Winnable.ensures then c.in_ok-put_line-in-Winnable.ensures _ then c.in_ok-put_fens_if-in-Winnable.ensures)

pub returns-in_ok-put_cert_if-in-Unwinnable : goal.returns-in_ok-put_cert_if-in-Unwinnable
unfolding verdict_members
returns-in_ok-put_cert_if-in-Unwinnable c =
    let grounds = rw (c.ground_of.ensures, c.nodes-nodes.ensures) at c.in_ok-put_ground-in-Unwinnable.ensures (cert_members c.args.extras.certs c.args.winner c.in-Unwinnable.cert) in
    rw c.in-Unwinnable.is (next _ _ _ _ _ c.in_ok-put_text-in-Unwinnable.ensures then grounds then c.in_ok-put_cert_if-in-Unwinnable.ensures)

pub returns-in_ok-put_count-in-Undecided-2 : goal.returns-in_ok-put_count-in-Undecided-2
unfolding verdict_members
returns-in_ok-put_count-in-Undecided-2 c =
    let positions = rw c.from.ensures at c.in_ok-put_count-in-Undecided.ensures in
    let depth = rw c.from-in-Undecided.ensures at c.in_ok-put_count-in-Undecided-2.ensures in
    rw c.in-Undecided.is (next _ _ _ _ _ c.in_ok-put_text-in-Undecided.ensures then next _ _ _ _ _ positions then next _ _ _ _ _ depth)

pub returns-in_ok-put_text-in-Skipped : goal.returns-in_ok-put_text-in-Skipped
unfolding verdict_members
returns-in_ok-put_text-in-Skipped c = rw c.in-Skipped.is (next _ _ _ _ _ c.in_ok-put_text-in-Skipped.ensures)
