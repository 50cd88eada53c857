use Rattle.std.proofs.Common.{◌≡◌, None, subst}
use Rattle.cha_cert.specs.Shared.{leaf_added}
use Rattle.cha_cert.proofs.Appending.{leaf_spread}
use Rattle.cha_cert.proofs.sharing.append.Goals as goal

pub returns-in_ok-push_leaf-in-Leaf-clause-spread : goal.returns-in_ok-push_leaf-in-Leaf-clause-spread
returns-in_ok-push_leaf-in-Leaf-clause-spread c =
    let q = c.of-position.result in
    leaf_spread c.args.shared.now c.push_leaf.new.self c.args.node q c.in-Leaf.sets c.nodes-nodes.ensures.named c.of-position.ensures c.in-Leaf.is
    (subst (λ s. c.push_leaf.new.self ≡ leaf_added c.args.shared.now q s None) c.in-Leaf.sets-is c.in_ok-push_leaf-in-Leaf.ensures.ok)
