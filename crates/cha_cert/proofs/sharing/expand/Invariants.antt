use Rattle.std.proofs.Common.{◌≡◌, take, map}
use Rattle.cha_cert.specs.Shared.{node_of}
use Rattle.cha_cert.proofs.sharing.expand.Given as goal

-- the nodes so far are expanded
abbrev pub invariant-loop-node : goal.invariant-loop-node
invariant-loop-node l = l.cert ≡ map (node_of l.shared.sets) (take l.node-index l.shared.nodes)
