-- What the last line of a report counts (this project).
use Rattle.std.specs.Prelude.{ℕ, List, codes}
use Rattle.cha_outcome.specs.declared.totals.Totals.{Totals}
use Rattle.report_words.specs.declared.columns.Column.{Column}
use Rattle.report_words.specs.declared.columns.Column.TheVariants.{Games, Unreadable, Changed, Undecided, Positions, Refused, Dead, Found}

-- the name of a number
unfoldable pub column_name : Column → List ℕ
column_name Games = codes "games"
column_name Unreadable = codes "unreadable"
column_name Changed = codes "changed"
column_name Undecided = codes "undecided"
column_name Positions = codes "positions"
column_name Refused = codes "refused"
column_name Dead = codes "dead"
column_name Found = codes "found"

-- the number
abbrev pub column_count : Column → Totals → ℕ
column_count Games s = s.items
column_count Positions s = s.items
column_count Unreadable s = s.refused
column_count Refused s = s.refused
column_count Changed s = s.changed
column_count Undecided s = s.undecided
column_count Dead s = s.dead
column_count Found s = s.found
