use Rattle.std.proofs.Common.{Option, refl, subst, ◌∙◌}
use Rattle.root_workers.specs.declared.work.RootMate.{RootMate}
use Rattle.root_workers.specs.Gathers.{IsNoHigher}
use Rattle.root_workers.proofs.Gathering.{no_mate_behind, share_at, root_found, same_mate_answer, refused_here}
use Rattle.root_workers.proofs.gather.gathered.Goals as goal

pub returns-then-are_whole-clause-holds : goal.returns-then-are_whole-clause-holds
returns-then-are_whole-clause-holds g c = no_mate_behind (g.C.Crew.leaves c.args.crew.now) c.args.task.now c.args.moves.now (g.C.Crew.count c.args.crew.now) c.if-are_whole.ensures.some c.requires.shares (c.if-are_whole.ensures.whole refl) c.requires.listed c.requires.running

pub returns-in-Some-clause-lowest : goal.returns-in-Some-clause-lowest
returns-in-Some-clause-lowest g c = λ line is.
    let f = root_found c.args.task.now c.args.moves.now c.in-Some.mate c.in-Some.ensures.holds in
    (c.in-Some.mate, f.0, f.1, same_mate_answer line c.led.result is ∙ c.led.ensures.begins f.0 f.1, c.in-Some.ensures.lowest)

pub returns-then-is_spent-clause-spent : goal.returns-then-is_spent-clause-spent
returns-then-is_spent-clause-spent g c = λ _.
    let h = c.if-is_spent.ensures.spent refl in
    (share_at (g.C.Crew.leaves c.args.crew.now) c.args.task.now c.args.moves.now (g.C.Crew.count c.args.crew.now) h.0 h.1 c.requires.shares h.2 h.3).spent h.4

pub returns-clause-refused : goal.returns-clause-refused
returns-clause-refused g c =
    let h = c.if-are_whole.ensures.open refl in
    let lowest = c.lowest_mate.ensures.lowest h.0 h.1 h.2 h.3 in
    (h.0, h.1, h.2, h.3, refused_here h.1 (subst (λ (o : Option RootMate). IsNoHigher o h.1.mate) c.in_default.is lowest) (c.if-is_spent.ensures.left refl h.0 h.1 h.2 h.3) h.4)
