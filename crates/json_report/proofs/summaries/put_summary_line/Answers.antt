use Rattle.std.proofs.Common.{◌∙◌, ap, ◌++◌}
use Rattle.json_report.proofs.Stepping.{lined, reads_back_from}
use Rattle.json_report.proofs.Depths.{summary_shallow}
use Rattle.json_report.proofs.summaries.put_summary_line.Goals as goal

pub returns-clause-text : goal.returns-clause-text
returns-clause-text c = lined _ _ _ _ _ _ c.new-json.ensures.text c.new-json.ensures.after c.in_ok-put_summary.ensures (c.in_ok-append.ensures.ok ∙ ap (λ x. c.args.text.now ++ x) c.items.ensures) c.in_ok-append-2.ensures.ok

pub returns-clause-reads_back : goal.returns-clause-reads_back
returns-clause-reads_back c = reads_back_from _ _ _ c.in_ok-put_summary.ensures (summary_shallow c.args.columns.now c.args.closed c.args.totals.now)
