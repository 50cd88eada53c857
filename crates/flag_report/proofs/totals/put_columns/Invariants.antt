use Rattle.std.proofs.Common.{◌≡◌, ◌++◌, drop}
use Rattle.flag_report.specs.Totals.{column_texts}
use Rattle.flag_report.proofs.totals.put_columns.Given as goal

-- what is written, and what is left to write, are the texts of all numbers
abbrev pub invariant-loop-column : goal.invariant-loop-column
invariant-loop-column l = l.text ++ column_texts (drop l.column-index l.columns) l.totals ≡ l.initial.text ++ column_texts l.columns l.totals
