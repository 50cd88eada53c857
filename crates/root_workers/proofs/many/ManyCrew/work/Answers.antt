use Rattle.std.proofs.Common.{sym, ◌∙◌, ap}
use Rattle.std.proofs.lemmas.List.{get_or_default}
use Rattle.root_workers.specs.declared.work.Worker.{Worker}
use Rattle.root_workers.specs.Crews.{LeavesWork}
use Rattle.root_workers.proofs.many.ManyCrew.work.Goals as goal

pub returns-clause-left : goal.returns-clause-left
unfolding LeavesWork
returns-clause-left g c = λ d less. ap (λ (w : Worker). w.work) (c.index.ensures ∙ get_or_default c.args.self.now.crew.now.items c.args.number c.index.result.now d less)

pub returns-clause-only : goal.returns-clause-only
unfolding LeavesWork
returns-clause-only g c = λ work left. left c.index.result.now c.requires.number ∙ ap (λ (w : Worker). w.work) (sym c.index.ensures)
