use Rattle.std.proofs.Common.{sym, ◌∙◌, ap}
use Rattle.std.proofs.lemmas.List.{get_or_default}
use Rattle.root_workers.specs.declared.work.Worker.{Worker}
use Rattle.root_workers.specs.Crews.{LeavesWork}
use Rattle.root_workers.proofs.Staffing.{leaves_hired, hired_leaves}
use Rattle.root_workers.proofs.staff.Staff.work.Goals as goal

pub returns-in-Some-clause-left : goal.returns-in-Some-clause-left
unfolding LeavesWork
returns-in-Some-clause-left c = leaves_hired c.args.self.now c.in-Some.hired c.args.number c.index.result.now.work c.in-Some.is (λ d less. ap (λ (w : Worker). w.work) (c.index.ensures ∙ get_or_default c.in-Some.hired.crew.items c.args.number c.index.result.now d less))

pub returns-in-Some-clause-only : goal.returns-in-Some-clause-only
unfolding LeavesWork
returns-in-Some-clause-only c = λ work left. hired_leaves c.args.self.now c.in-Some.hired c.args.number work c.in-Some.is left c.index.result.now (rw c.in-Some.is at c.requires.number) ∙ ap (λ (w : Worker). w.work) (sym c.index.ensures)
