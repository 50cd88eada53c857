use Rattle.std.proofs.Common.{Some, arith}
use Rattle.std.proofs.KnownBytes.{Consumes-nil}
use Rattle.adjudicate.specs.Jobs.{job_on}
use Rattle.item_batches.proofs.Settling.{took_nothing}
use Rattle.adjudicate.proofs.RunEndings.{not_begun_by}
use Rattle.adjudicate.proofs.jobs.report.Goals as goal

pub returns-in_default-clause-run : goal.returns-in_default-clause-run
returns-in_default-clause-run g c = not_begun_by (Some (job_on c.args.kind _ c.args.form.style c.args.form.subject)) (took_nothing c.args.kind) _ _ _ _

pub returns-clause-run : goal.returns-clause-run
returns-clause-run g c = (rw c.in-Ok.ensures at c.write_report-status.ensures.run) _ _ (Consumes-nil _) (omega arith)
