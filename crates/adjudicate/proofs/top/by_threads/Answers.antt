use Rattle.root_workers.proofs.Staffing.{staff_did}
use Rattle.adjudicate.proofs.top.by_threads.Goals as goal

pub returns-clause-one_history : goal.returns-clause-one_history
returns-clause-one_history g c =
    let calls = c.carry_out-status.ensures.calls in
    staff_did c.args.limits.now.workers c.args.limits.now.entries c.new-crew.result.staff c.carry_out-status.new.crew.staff calls.0 c.close-shards.result (rw (c.workers.ensures.value, c.entries.ensures.value) at c.new-crew.ensures.none) c.carry_out-status.ensures.stays_ready.1 calls.1 c.close-shards.ensures
