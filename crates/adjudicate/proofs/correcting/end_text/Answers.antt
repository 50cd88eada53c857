use Rattle.std.proofs.Common.{ap, ◌∙◌}
use Rattle.report_style.specs.declared.styles.Style.TheVariants.{SummaryAlone}
use Rattle.flag_report.specs.declared.styles.Subject.TheVariants.{Games}
use Rattle.flag_report.specs.Styles.{summary}
use Rattle.side_by_side.specs.declared.cuts.Purpose.TheVariants.{Corrected}
use Rattle.side_by_side.specs.declared.cuts.ItemKind.TheVariants.{Games as GamesFor}
use Rattle.adjudicate.proofs.ReportLoop.{same_closed}
use Rattle.adjudicate.proofs.CorrectingLoop.{ended_cut, ended_late, ended_well}
use Rattle.adjudicate.proofs.correcting.end_text.Goals as goal

pub returns-in-Failed : goal.returns-in-Failed
returns-in-Failed g c =
    let cause = rw c.in-Failed.is at c.put.ensures.cause in
    ended_cut _ _ _ _ _ _ _ _ _ c.behind.ensures (rw c.in-Failed.is at c.put.ensures.bytes) cause.0 cause.1

pub returns-in-All-put : goal.returns-in-All-put
returns-in-All-put g c =
    let shut = same_closed (GamesFor Corrected) _ _ _ c.requires.kept (c.is_closed.ensures c.requires.ended.1 c.requires.ended.0) in
    let told = c.items.ensures ∙ c.in-Ok.ensures ∙ ap (λ b. summary SummaryAlone Games b c.args.totals.now) shut in
    ended_well _ _ _ _ _ _ _ _ _ _ c.behind.ensures (rw c.in-All.is at c.put.ensures.bytes) (rw c.in-All.is at c.put.ensures.cause) told (rw c.in-All-put.is at c.put-2.ensures.bytes) (rw c.in-All-put.is at c.put-2.ensures.cause)

pub returns : goal.returns
returns g c =
    let shut = same_closed (GamesFor Corrected) _ _ _ c.requires.kept (c.is_closed.ensures c.requires.ended.1 c.requires.ended.0) in
    let told = c.items.ensures ∙ c.in-Ok.ensures ∙ ap (λ b. summary SummaryAlone Games b c.args.totals.now) shut in
    let cause = rw c.in-Failed-put.is at c.put-2.ensures.cause in
    ended_late _ _ _ _ _ _ _ _ _ _ _ c.behind.ensures (rw c.in-All.is at c.put.ensures.bytes) (rw c.in-All.is at c.put.ensures.cause) told (rw c.in-Failed-put.is at c.put-2.ensures.bytes) cause.0 cause.1
