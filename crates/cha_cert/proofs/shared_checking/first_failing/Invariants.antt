use Rattle.std.proofs.Common.{ℕ, ◌<◌, length, take, get_or}
use Rattle.cha_cert.specs.declared.shared.SharedNode.{SharedNode}
use Rattle.cha_cert.specs.Certificates.{NodeHolds}
use Rattle.cha_cert.specs.Costs.{inner_moves, CostsAtMost}
use Rattle.cha_cert.specs.Shared.{expansion, node_of}
use Rattle.cha_cert.proofs.shared_checking.first_failing.Given as goal

-- the nodes so far hold, and cost no more than their moves
abbrev pub invariant-loop-number : goal.invariant-loop-number
invariant-loop-number g l = record {
  held : (j : ℕ) (d : SharedNode) → j < l.number → NodeHolds l.winner (expansion l.shared) (node_of l.shared.sets (get_or l.shared.nodes j d));
  cost : CostsAtMost (length l.shared.nodes) (inner_moves (take l.number (expansion l.shared))) l.initial.steps l.steps;
}
