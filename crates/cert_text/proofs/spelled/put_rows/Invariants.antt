use Rattle.std.proofs.Common.{◌≡◌, ℕ, ◌<◌, ◌++◌, map, take, get_or}
use Rattle.mob_sets.specs.Rows.{Row}
use Rattle.cert_text.specs.Spelled.{row_line, lines_text}
use Rattle.cert_text.proofs.spelled.put_rows.Given as goal

-- the rows so far are written, and on the board
abbrev pub invariant-loop-row : goal.invariant-loop-row
invariant-loop-row l = record {
  text : l.text ≡ l.initial.text ++ lines_text (map row_line (take l.row-index l.rows));
  known : (k : ℕ) (d : Row) → k < l.row-index → (get_or l.rows k d).origin < 64;
}
