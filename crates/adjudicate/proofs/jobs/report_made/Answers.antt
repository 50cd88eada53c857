use Rattle.std.proofs.Common.{[], Some, refl, ◌∙◌}
use Rattle.adjudicate.specs.Jobs.{on_made}
use Rattle.adjudicate.proofs.RunEndings.{took_all, not_begun_by, made_run}
use Rattle.adjudicate.proofs.jobs.report_made.Goals as goal

pub returns-in_default-clause-run : goal.returns-in_default-clause-run
returns-in_default-clause-run g c = λ left faults. not_begun_by (Some (on_made _ _ _)) (took_all (λ _. 0) (λ _. refl) []) _ _ _ _

pub returns-clause-run : goal.returns-clause-run
returns-clause-run g c = λ left faults. (
    rw c.of_made.ensures (made_run _ c.args.seed c.args.count left _ _ faults _ _ c.new-made.result c.report.new.source 0 (c.new-made.ensures ∙ c.into_vec.ensures ∙ c.in-Ok.ensures) c.report.result c.report.ensures.run))
