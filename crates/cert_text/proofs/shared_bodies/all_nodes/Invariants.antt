use Rattle.std.proofs.Common.{◌≡◌, ◌-◌, ◌≤◌, [], length, drop}
use Rattle.cert_text.specs.declared.faults.CertKind.TheVariants.{Node}
use Rattle.cert_text.specs.TextLines.{lines_of, tail_of}
use Rattle.cert_text.specs.Texts.{wanted}
use Rattle.cert_text.specs.SharedTexts.{shared_node_of, many_after}
use Rattle.cert_text.proofs.shared_bodies.all_nodes.Given as goal

-- the nodes so far, and what is left, give what the whole gives
abbrev pub invariant-loop-read : goal.invariant-loop-read
invariant-loop-read l = record {
  sets : l.shared.sets ≡ l.initial.shared.sets;
  inside : l.left.at ≤ length l.bytes;
  tail : tail_of (drop l.left.at l.bytes) ≡ tail_of (drop l.initial.left.at l.bytes);
  said :
      many_after (wanted (shared_node_of l.sets) Node) l.count [] l.initial.left.number (lines_of (drop l.initial.left.at l.bytes))
      ≡ many_after (wanted (shared_node_of l.sets) Node) (l.count - l._read) l.shared.nodes l.left.number (lines_of (drop l.left.at l.bytes));
}
