use Rattle.std.proofs.Common.{◌≡◌, take}
use Rattle.cha_cert.specs.Shared.{Shares, shared_of}
use Rattle.cha_cert.proofs.sharing.share.Given as goal

-- the nodes so far are shared
abbrev pub invariant-loop-node : goal.invariant-loop-node
invariant-loop-node l = record {
  shares : Shares l.shared (take l.node-index l.node-items);
  exact : l.shared ≡ shared_of (take l.node-index l.node-items);
}
