use Rattle.std.proofs.Common.{ℕ, ◌<◌, length, take, get_or}
use Rattle.cha_cert.specs.declared.nodes.Node.{Node}
use Rattle.cha_cert.specs.Certificates.{NodeHolds}
use Rattle.cha_cert.specs.Costs.{inner_moves, CostsAtMost}
use Rattle.cha_cert.proofs.checking.first_failing.Given as goal

-- the nodes so far hold, and cost no more than their moves
abbrev pub invariant-loop-number : goal.invariant-loop-number
invariant-loop-number g l = record {
  held : (j : ℕ) (d : Node) → j < l.number → NodeHolds l.winner l.nodes (get_or l.nodes j d);
  cost : CostsAtMost (length l.nodes) (inner_moves (take l.number l.nodes)) l.initial.steps l.steps;
}
