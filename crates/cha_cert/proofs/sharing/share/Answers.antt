-- Nothing is shared at first, and then one node more.
use Rattle.std.proofs.Common.{◌≡◌, ◌+◌, List, [], ◌∷◌, ◌++◌, take, sym, ap, subst, ◌∙◌}
use Rattle.std.proofs.lemmas.List.{take_more}
use Rattle.cha_cert.specs.declared.nodes.Node.{Node}
use Rattle.cha_cert.specs.Shared.{Shares}
use Rattle.cha_cert.proofs.OnceWritten.{nothing_shared}
use Rattle.cha_cert.proofs.Telling.{none_shared, one_shared}
use Rattle.cha_cert.proofs.sharing.share.Goals as goal

pub loop-node-init : goal.loop-node-init
loop-node-init c = record { shares = nothing_shared c.new-shared.result c.new-shared.ensures; exact = none_shared c.new-shared.result c.new-shared.ensures }

pub loop-node-preserved : goal.loop-node-preserved
loop-node-preserved c =
    let nodes = c.nodes-node-items.result.now in
    let k = c.loop-node.node-index in
    let node = c.node-item.result in
    let more : take (k + 1) nodes ≡ take k nodes ++ node ∷ [] = take_more nodes k node c.loop-node-test.true ∙ ap (λ n. take k nodes ++ n ∷ []) (sym c.node-item.is) in
    record {
      shares = subst (λ (ns : List Node). Shares c.add.new.shared ns) (sym more) (c.in_ok-add.ensures.shares (take k nodes) c.loop-node.invariant.shares);
      exact = one_shared nodes k node c.loop-node.shared c.add.new.shared c.loop-node-test.true c.node-item.is c.loop-node.invariant.exact c.in_ok-add.ensures.exact;
    }
