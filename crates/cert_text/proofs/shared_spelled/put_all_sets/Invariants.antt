use Rattle.std.proofs.Common.{◌≡◌, ℕ, ◌<◌, ◌++◌, take, get_or}
use Rattle.std.specs.List.{flat_map}
use Rattle.mob_sets.specs.Rows.{SetRows}
use Rattle.cert_text.specs.Spelled.{lines_text}
use Rattle.cert_text.specs.SharedSpelled.{set_lines}
use Rattle.cert_text.specs.Writable.{IsWritableSets}
use Rattle.cert_text.proofs.shared_spelled.put_all_sets.Given as goal

-- the sets so far are written, and can be
abbrev pub invariant-loop-sets : goal.invariant-loop-sets
invariant-loop-sets l = record {
  text : l.text ≡ l.initial.text ++ lines_text (flat_map set_lines (take l.sets-index l.all));
  writable : (k : ℕ) (d : SetRows) → k < l.sets-index → IsWritableSets (get_or l.all k d);
}
