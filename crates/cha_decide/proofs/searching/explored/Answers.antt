use Rattle.std.proofs.Common.{ℕ, subst}
use Rattle.forced_graph.specs.declared.explored.Explored.TheVariants.{Closed}
use Rattle.forced_graph.specs.Outcomes.{HasExpandedInner, IsOutcome}
use Rattle.cha_decide.proofs.Leaves.{found_closed}
use Rattle.cha_decide.proofs.searching.explored.Goals as goal

pub returns-in_ok-checked-in-Closed-clause-found : goal.returns-in_ok-checked-in-Closed-clause-found
returns-in_ok-checked-in-Closed-clause-found g c =
    let closed : IsOutcome c.args.position.now c.args.winner c.budget.result (Closed c.in-Closed.cert) = rw c.in-Closed.is at c.in_ok-moves.ensures.holds in
    let inner = subst (λ (n : ℕ). HasExpandedInner c.args.position.now c.args.winner n c.in-Closed.cert) c.budget.ensures.value closed.2 in
    found_closed c.args.position.now c.args.winner c.args.limits.now c.in-Closed.cert c.in_ok-checked-in-Closed.field-0 c.requires.unshown inner c.in_ok-checked-in-Closed.ensures.same c.in_ok-checked-in-Closed.ensures.shown
