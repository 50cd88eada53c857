use Rattle.std.proofs.Common.{◌≡◌, ◌-◌, ◌≤◌, [], length, drop}
use Rattle.mob_sets.specs.Tidy.{AreTidy}
use Rattle.cert_text.specs.TextLines.{lines_of, tail_of}
use Rattle.cert_text.specs.Texts.{rows_after}
use Rattle.cert_text.proofs.leaves.rows_of_leaf.Given as goal

-- the rows so far, and what is left, give what the whole gives
abbrev pub invariant-loop-rows : goal.invariant-loop-rows
invariant-loop-rows l = record {
  inside : l.left.at ≤ length l.bytes;
  tail : tail_of (drop l.left.at l.bytes) ≡ tail_of (drop l.initial.left.at l.bytes);
  said :
      rows_after (tail_of (drop l.initial.left.at l.bytes)) [] l.initial.left.number (lines_of (drop l.initial.left.at l.bytes))
      ≡ rows_after (tail_of (drop l.initial.left.at l.bytes)) l.rows.items l.left.number (lines_of (drop l.left.at l.bytes));
  tidy : AreTidy l.rows.items;
}

abbrev pub decreases-loop-rows : goal.decreases-loop-rows
decreases-loop-rows l = length l.bytes - l.left.at
