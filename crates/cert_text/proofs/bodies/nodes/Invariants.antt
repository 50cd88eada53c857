use Rattle.std.proofs.Common.{◌≡◌, ◌-◌, ◌≤◌, [], length, drop}
use Rattle.cha_cert.specs.Shared.{expansion}
use Rattle.cert_text.specs.TextLines.{lines_of, tail_of}
use Rattle.cert_text.specs.Spelled.{AreInnerOrLeaves}
use Rattle.cert_text.specs.Texts.{nodes_after}
use Rattle.cert_text.proofs.bodies.nodes.Given as goal

-- the nodes so far, and what is left, give what the whole gives
abbrev pub invariant-loop-read : goal.invariant-loop-read
invariant-loop-read l = record {
  inner_or_leaf : AreInnerOrLeaves (expansion l.cert);
  sets : length l.cert.sets ≤ l._read;
  inside : l.left.at ≤ length l.bytes;
  tail : tail_of (drop l.left.at l.bytes) ≡ tail_of (drop l.initial.left.at l.bytes);
  said :
      nodes_after (tail_of (drop l.initial.left.at l.bytes)) l.count [] l.initial.left.number (lines_of (drop l.initial.left.at l.bytes))
      ≡ nodes_after (tail_of (drop l.initial.left.at l.bytes)) (l.count - l._read) (expansion l.cert) l.left.number (lines_of (drop l.left.at l.bytes));
}
