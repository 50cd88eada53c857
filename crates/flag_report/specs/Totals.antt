-- The last line of what is printed (this project).
use Rattle.std.specs.Prelude.{ℕ, Bool, List, [], ◌∷◌, ◌++◌, Option, Some, None, codes, decimal}
use Rattle.cha_outcome.specs.declared.totals.Totals.{Totals}
use Rattle.report_words.specs.declared.columns.Column.{Column}
use Rattle.report_words.specs.declared.columns.Column.TheVariants as columns
use Rattle.report_words.specs.Columns.{column_name, column_count}
use Rattle.flag_report.specs.declared.styles.Subject.{Subject}
use Rattle.flag_report.specs.declared.styles.Subject.TheVariants.{Games, Positions, Mates, Plies}
use Rattle.flag_report.specs.Findings.{line}

-- what is counted, by what the report is about
abbrev pub columns_of : Subject → List Column
columns_of Games = columns.Games ∷ columns.Unreadable ∷ columns.Changed ∷ columns.Undecided ∷ []
columns_of Positions = columns.Positions ∷ columns.Refused ∷ columns.Dead ∷ columns.Undecided ∷ []
columns_of Mates = columns.Positions ∷ columns.Refused ∷ columns.Found ∷ []
columns_of Plies = columns.Games ∷ columns.Unreadable ∷ []

-- of games also whether their text is closed
abbrev pub closed_of : Subject → Bool → Option Bool
closed_of Games closed = Some closed
closed_of Positions closed = None
closed_of Mates closed = None
closed_of Plies closed = Some closed

-- a number behind its name; and numbers, each behind a comma
abbrev pub column_text : Column → Totals → List ℕ
column_text c s = column_name c ++ codes ": " ++ decimal (column_count c s)

abbrev pub column_texts : List Column → Totals → List ℕ
column_texts [] s = []
column_texts (c ∷ cs) s = codes ", " ++ column_text c s ++ column_texts cs s

-- the line with what was counted
abbrev pub counts_line : List Column → Totals → List ℕ
counts_line [] s = line []
counts_line (c ∷ cs) s = line (column_text c s ++ column_texts cs s)

-- the last line, by what the report is about
abbrev pub summary_text : Subject → Totals → List ℕ
summary_text subject s = counts_line (columns_of subject) s
