use Rattle.std.proofs.Common.{◌≡◌, ◌≤◌, ◌++◌, drop}
use Rattle.cha_fen.specs.Written.{row_text_after}
use Rattle.cha_fen.proofs.written.put_row.Given as goal

-- what is written, and what is left to write, are the row
abbrev pub invariant-loop-man : goal.invariant-loop-man
invariant-loop-man l = record {
  text : l.text ++ row_text_after l.empty (drop l.man-index l.men) ≡ l.initial.text ++ row_text_after 0 l.men;
  few : l.empty ≤ l.man-index;
}
