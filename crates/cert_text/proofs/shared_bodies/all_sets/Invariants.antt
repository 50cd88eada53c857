use Rattle.std.proofs.Common.{◌≡◌, ◌-◌, ◌≤◌, [], length, drop}
use Rattle.cert_text.specs.TextLines.{lines_of, tail_of}
use Rattle.cert_text.specs.SharedTexts.{sets_after, many_after}
use Rattle.cert_text.proofs.shared_bodies.all_sets.Given as goal

-- the sets so far, and what is left, give what the whole gives
abbrev pub invariant-loop-read : goal.invariant-loop-read
invariant-loop-read l = record {
  size : length l.shared.sets ≡ l._read;
  no_nodes : l.shared.nodes ≡ [];
  inside : l.left.at ≤ length l.bytes;
  tail : tail_of (drop l.left.at l.bytes) ≡ tail_of (drop l.initial.left.at l.bytes);
  said :
      many_after (sets_after (tail_of (drop l.initial.left.at l.bytes))) l.count [] l.initial.left.number (lines_of (drop l.initial.left.at l.bytes))
      ≡ many_after (sets_after (tail_of (drop l.initial.left.at l.bytes))) (l.count - l._read) l.shared.sets l.left.number (lines_of (drop l.left.at l.bytes));
}
