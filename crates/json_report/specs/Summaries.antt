-- The value that the last line of a report is (this project).
use Rattle.std.specs.Prelude.{ℕ, Bool, List, [], ◌∷◌, ◌++◌, Option, Some, None, codes}
use Rattle.cha_outcome.specs.declared.totals.Totals.{Totals}
use Rattle.json.specs.Json.{Json, boolean, object, Members, no_members, member}
use Rattle.json_text.specs.Texts.{json_text}
use Rattle.report_words.specs.declared.columns.Column.{Column}
use Rattle.report_words.specs.Columns.{column_name, column_count}
use Rattle.json_report.specs.Lines.{count}

-- the members with what was counted, before others
abbrev pub count_members : List Column → Totals → Members → Members
count_members [] s more = more
count_members (c ∷ cs) s more = member (column_name c) (count (column_count c s)) (count_members cs s more)

-- whether a text of games is closed, where that is said
abbrev pub closed_members : Option Bool → Members
closed_members None = no_members
closed_members (Some closed) = member (codes "closed") (boolean closed) no_members

-- what was counted
abbrev pub summary_json : List Column → Option Bool → Totals → Json
summary_json columns closed s = object (count_members columns s (closed_members closed))

-- the line that a value is
abbrev pub json_line : Json → List ℕ
json_line j = json_text j ++ 10 ∷ []
