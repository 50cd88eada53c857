use Rattle.root_workers.specs.Shares.{ShareCalls, AllGrowTo}
use Rattle.root_workers.proofs.on_demand.OnDemandCrew.share_out.Goals as goal

pub returns-clause-calls : goal.returns-clause-calls
unfolding ShareCalls
returns-clause-calls g c = λ i work less left. (let calls = c.share_out.ensures.calls i work less left in (calls.0, calls.1, calls.2, calls.3))

pub returns-clause-grow : goal.returns-clause-grow
unfolding AllGrowTo
returns-clause-grow g c = λ i less. (let grown = c.share_out.ensures.grow i less in (grown.0, grown.1, grown.2))
