use Rattle.std.proofs.Common.{◌<◌, ℕ, ◌+◌, List, length, drop, get_or, add-one, drop-cons}
use Rattle.cha_outcome.specs.declared.totals.Totals.{Totals}
use Rattle.json.specs.Json.{Members}
use Rattle.json_text.specs.declared.writer.JsonText.{JsonText}
use Rattle.report_words.specs.declared.columns.Column.{Column}
use Rattle.report_words.specs.Columns.{column_name, column_count}
use Rattle.json_report.specs.Lines.{count}
use Rattle.json_report.specs.Spelled.{IsMember, Leads}
use Rattle.json_report.specs.Summaries.{count_members}
use Rattle.json_report.proofs.Stepping.{◌then◌, next}
use Rattle.json_report.proofs.summaries.put_counts.Goals as goal

-- one member more
one_more : (columns : List Column) (i : ℕ) (s : Totals) (old new : JsonText) (more : Members) (c : Column) → i < length columns → IsMember old (column_name (get_or columns i c)) (count (column_count (get_or columns i c) s)) new
    → Leads old (count_members (drop i columns) s more) new (count_members (drop (i + 1) columns) s more)
one_more columns i s old new more c inside is = rw (add-one, drop-cons columns i c inside) (next _ _ _ _ _ is)

pub loop-column-preserved : goal.loop-column-preserved
loop-column-preserved c = λ more. c.loop-column.invariant more then one_more _ _ _ _ _ more _ c.loop-column-test.true c.in_ok-put_column.ensures
