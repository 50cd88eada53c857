use Rattle.std.proofs.Common.{drop}
use Rattle.json.specs.Json.{Members}
use Rattle.json_report.specs.Summaries.{count_members}
use Rattle.json_report.specs.Spelled.{Leads}
use Rattle.json_report.proofs.summaries.put_counts.Given as goal

-- what is written, and what is left to write, are all members
abbrev pub invariant-loop-column : goal.invariant-loop-column
invariant-loop-column l = (more : Members) → Leads l.initial.json (count_members l.columns l.totals more) l.json (count_members (drop l.column-index l.columns) l.totals more)
