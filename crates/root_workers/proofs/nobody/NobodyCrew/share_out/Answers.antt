use Rattle.root_workers.proofs.Refusing.{refused_share, refused_calls, none_grow}
use Rattle.root_workers.proofs.nobody.NobodyCrew.share_out.Goals as goal

pub returns-clause-shares : goal.returns-clause-shares
returns-clause-shares c = λ i work less left. refused_share c.refused.result work c.refused.ensures left c.args._task.now c.args._moves.now i 1

pub returns-clause-calls : goal.returns-clause-calls
returns-clause-calls c = λ i work less left. refused_calls _ c.args.self.now _ tt c.refused.result work c.refused.ensures.3 left c.args._task.now c.args._moves.now i 1

pub returns-clause-grow : goal.returns-clause-grow
returns-clause-grow c = none_grow _ c.args.self.now _ c.args._task.now.depth 1 (λ _. tt)
