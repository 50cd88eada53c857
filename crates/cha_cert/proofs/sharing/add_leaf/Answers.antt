-- A leaf is shared, with sets that are there or new ones.
use Rattle.std.proofs.Common.{length, refl, ap}
use Rattle.cha_cert.proofs.OnceWritten.{old_added, new_added}
use Rattle.cha_cert.proofs.Telling.{leaf_old, leaf_new}
use Rattle.cha_cert.proofs.sharing.add_leaf.Goals as goal

pub returns-in_ok-push-in-Some-clause-shares : goal.returns-in_ok-push-in-Some-clause-shares
returns-in_ok-push-in-Some-clause-shares c =
    λ nodes shares. old_added c.args.shared.now c.push.new.self c.sets.result.now nodes c.args.position c.args.sets.now c.in-Some.number c.sets.ensures c.in-Some.ensures.some c.in_ok-push-in-Some.ensures.ok shares

pub returns-in_ok-push-in-None-clause-shares : goal.returns-in_ok-push-in-None-clause-shares
returns-in_ok-push-in-None-clause-shares c =
    λ nodes shares. new_added c.args.shared.now c.add_sets.new.self c.push-in-None.new.self c.sets.result.now nodes c.args.position c.args.sets.now c.in_ok-copy-in-None.field-0 (length c.sets-in-None.result.now) c.sets.ensures (c.in-None.ensures.none refl) c.in_ok-copy-in-None.ensures
    c.in_ok-add_sets-in-None.ensures.ok (ap length c.sets-in-None.ensures) c.in_ok-push-in-None.ensures.ok shares

pub returns-in_ok-push-in-Some-clause-exact : goal.returns-in_ok-push-in-Some-clause-exact
returns-in_ok-push-in-Some-clause-exact c =
    leaf_old c.args.shared.now c.push.new.self c.sets.result.now c.args.position c.args.sets.now c.in-Some.number c.number_of.result c.sets.ensures c.in-Some.is c.number_of.ensures.exact c.in_ok-push-in-Some.ensures.ok

pub returns-in_ok-push-in-None-clause-exact : goal.returns-in_ok-push-in-None-clause-exact
returns-in_ok-push-in-None-clause-exact c =
    leaf_new c.args.shared.now c.add_sets.new.self c.push-in-None.new.self c.sets.result.now c.args.position c.args.sets.now c.in_ok-copy-in-None.field-0 (length c.sets-in-None.result.now) c.number_of.result c.sets.ensures c.in-None.is c.number_of.ensures.exact c.in_ok-copy-in-None.ensures
    c.in_ok-add_sets-in-None.ensures.ok (ap length c.sets-in-None.ensures) c.in_ok-push-in-None.ensures.ok
