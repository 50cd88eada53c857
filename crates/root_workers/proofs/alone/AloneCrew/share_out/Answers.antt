use Rattle.std.proofs.Common.{refl}
use Rattle.root_workers.proofs.Ending.{one_share, one_calls, one_grows}
use Rattle.root_workers.proofs.alone.AloneCrew.share_out.Goals as goal

pub returns-clause-shares : goal.returns-clause-shares
returns-clause-shares g c = λ i work less is. one_share c.args.task.now c.args.moves.now i c.share_of.result work c.share_of.ensures.share less is

pub returns-clause-calls : goal.returns-clause-calls
returns-clause-calls g c = λ i work less is. one_calls g.F.Facts.made _ c.args.self.now.place.now c.share_of.new.facts c.args.self.now _ c.args.task.now c.args.moves.now i c.share_of.result work (λ entries made. (refl, made)) c.share_of.ensures.calls less is

pub returns-clause-grow : goal.returns-clause-grow
returns-clause-grow g c = one_grows g.F.Facts.made _ c.args.self.now.place.now c.share_of.new.facts c.args.self.now _ c.args.task.now c.args.moves.now c.share_of.result 1 (λ i entries made. (refl, made)) c.share_of.ensures.calls
