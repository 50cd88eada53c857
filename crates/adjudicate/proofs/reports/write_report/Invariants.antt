use Rattle.std.proofs.Common.{◌≡◌, ◌-◌, ◌≤◌, true, false, length}
use Rattle.std.specs.Io.KnownBytes.{IsAtEnd}
use Rattle.cha_outside.specs.Gathering.{Gathers}
use Rattle.item_batches.specs.Readers.{settled_by}
use Rattle.adjudicate.specs.Jobs.{job_on}
use Rattle.adjudicate.proofs.ReportLoop.{IsAt}
use Rattle.adjudicate.proofs.reports.write_report.Given as goal

-- the items given so far were judged, and what is printed of them was written
abbrev pub invariant-loop-found : goal.invariant-loop-found
invariant-loop-found g l = record {
  at : IsAt (job_on l.fn.items.kind (g.J.Judge.question l.fn.judge) l.form.style l.form.subject) (g.K.Sink.written l.fn.sink) (g.K.Sink.written l.sink) l.items.taken l.items.given l.totals;
  kind : l.items.kind ≡ l.fn.items.kind;
  asked : l.items.question ≡ g.J.Judge.question l.fn.judge;
  question : g.J.Judge.question l.judge ≡ g.J.Judge.question l.fn.judge;
  took : Gathers (g.S.Source.left l.fn.source) (g.S.Source.left l.source) l.fn.items.taken l.items.taken;
  end : l.items.ended ≡ true → IsAtEnd (g.S.Source.left l.source);
  due : l.items.ended ≡ false → l.items.given ≤ settled_by l.fn.items.kind l.items.taken;
  goes_on : l.items.failed ≡ false;
  few : length l.items.taken ≤ 268435456;
  source_later : g.S.Source.faults l.fn.source ≤ g.S.Source.faults l.source;
  sink_later : g.K.Sink.faults l.fn.sink ≤ g.K.Sink.faults l.sink;
  ready : g.J.Judge.ready l.judge;
  worked : g.J.Judge.worked l.fn.judge l.judge;
}

abbrev pub decreases-loop-found : goal.decreases-loop-found
decreases-loop-found g l = 4611686018427387904 - l.items.given
