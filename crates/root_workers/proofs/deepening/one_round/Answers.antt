use Rattle.root_workers.proofs.Going.{are_shares, round_searches}
use Rattle.root_workers.proofs.deepening.one_round.Goals as goal

pub gathered-requires-clause-shares : goal.gathered-requires-clause-shares
gathered-requires-clause-shares g c = are_shares (g.C.Crew.leaves c.share_out.new.self) c.args.task.now c.args.moves.now (g.C.Crew.count c.args.crew.now) (g.C.Crew.count c.share_out.new.self) c.share_out.ensures.shares c.share_out.ensures.count

pub returns-clause-searched : goal.returns-clause-searched
returns-clause-searched g c = λ is.
    round_searches g.C.Crew.made_by (g.C.Crew.leaves c.share_out.new.self) c.args.crew.now c.share_out.new.self c.args.task.now c.args.moves.now (g.C.Crew.count c.args.crew.now) (g.C.Crew.count c.share_out.new.self) c.share_out.ensures.calls (c.gathered.ensures.whole is) c.share_out.ensures.count c.requires.listed
