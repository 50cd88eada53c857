use Rattle.std.proofs.Common.{subst, refl, Err, Ok, ap, sym, ◌∙◌, arith}
use Rattle.cha_outside.proofs.Gathered.{gathers_nothing}
use Rattle.item_batches.proofs.Items.{not_more}
use Rattle.adjudicate.proofs.RunEndings.{rose_in}
use Rattle.adjudicate.proofs.LegalLines.{sound_is_legal}
use Rattle.adjudicate.proofs.ReportLoop.{at_first, retook, gave, room_at, same_first, same_item, same_settled, same_took, same_before, still_whole, given_whole, next_whole, same_closed, same_count, same_answers, all_taken, gathered, not_read, no_memory, cut_item, all_judged}
use Rattle.side_by_side.specs.Progresses.{IsOf}
use Rattle.adjudicate.proofs.reports.write_report.Goals as goal

pub loop-found-init : goal.loop-found-init
loop-found-init g c = record {
  at = at_first _ _ _ _ _ c.requires.first c.new-totals.ensures;
  kind = refl;
  asked = c.requires.asked;
  question = refl;
  took = gathers_nothing _ _;
  end = c.requires.ended;
  due = λ _. (let none = c.requires.first in omega (arith, none));
  goes_on = c.requires.goes_on;
  few = c.requires.few;
  source_later = omega arith;
  sink_later = omega arith;
  ready = c.requires.ready;
  worked = g.met.J.Judge.none_worked c.args.judge.now;
}

pub returns-in-Err-clause-run : goal.returns-in-Err-clause-run
returns-in-Err-clause-run g c = λ left faults consumed before. (
    let i = c.loop-found.invariant in
    let e = c.next.ensures in
    let at = retook _ _ _ _ _ _ _ i.at (same_first _ _ _ _ _ i.kind e.first) in
    let took = same_took _ _ _ _ i.kind e.no_more in
    let all = all_taken _ _ _ _ _ consumed (gathered _ _ _ _ _ _ i.took e.bytes) in
    not_read _ _ _ _ _ _ _ _ _ _ at took _ _ _ _ all (omega (arith, before, i.source_later, e.later)) c.in-Err.end _ c.from.ensures i.sink_later
    (λ fault. rose_in _ _ _ (omega (arith, before, i.source_later)) (e.read_fault (c.in-Err.is ∙ ap Err fault)))
    (λ fault. same_settled _ _ _ _ i.kind (e.settled (c.in-Err.is ∙ ap Err fault)))
    ((λ long. e.too_long.0 (c.in-Err.is ∙ ap Err long)), (λ more. let f = sym c.in-Err.is ∙ e.too_long.1 more in cc))
    e.few (still_whole _ c.loop-found.items.ended _ _ _ _ _ _ e.bytes i.due e.still_ended (e.end i.end)))

pub returns-in_default-clause-run : goal.returns-in_default-clause-run
returns-in_default-clause-run g c = λ left faults consumed before. (
    let i = c.loop-found.invariant in
    let e = c.next.ensures in
    let at = retook _ _ _ _ _ _ _ i.at (same_first _ _ _ _ _ i.kind e.first) in
    let took = same_took _ _ _ _ i.kind e.no_more in
    let all = all_taken _ _ _ _ _ consumed (gathered _ _ _ _ _ _ i.took e.bytes) in
    let few = not_more _ 268435456 (λ long. let f = sym c.in-Ok.is ∙ e.too_long.1 long in cc) in
    let none = e.none (c.in-Ok.is ∙ ap Ok c.in_default.is) in
    let last = c.end_report.ensures in
    let shut = same_closed _ _ _ _ (e.kind.0 ∙ i.kind) (c.is_closed.ensures none.0 (rw c.in-Ok.is at e.failed)) in
    all_judged _ _ _ _ _ _ _ _ _ _ at took _ _ _ _ all (omega (arith, before, i.source_later, e.later)) _ _ _ shut (omega (arith, last.later, i.sink_later)) few (same_count _ _ _ _ i.kind none.1) (e.end i.end none.0)
    last.whole last.cut last.no_memory (λ is. rose_in _ _ _ i.sink_later (last.cause is)) last.either)

pub finish-requires-clause-about : goal.finish-requires-clause-about
finish-requires-clause-about g c =
    let i = c.loop-found.invariant in
    let work = rw c.in-Some.is at c.in-Ok.ensures.work in
    (work.0, subst (λ q. IsOf q work.0 c.in-Some.progress) (i.asked ∙ sym i.question) work.2)

pub returns-in_default-finish-clause-run : goal.returns-in_default-finish-clause-run
returns-in_default-finish-clause-run g c = λ left faults consumed before. (
    let i = c.loop-found.invariant in
    let e = c.next.ensures in
    let at = retook _ _ _ _ _ _ _ i.at (same_first _ _ _ _ _ i.kind e.first) in
    let took = same_took _ _ _ _ i.kind e.no_more in
    let all = all_taken _ _ _ _ _ consumed (gathered _ _ _ _ _ _ i.took e.bytes) in
    let few = not_more _ 268435456 (λ long. let f = sym c.in-Ok.is ∙ e.too_long.1 long in cc) in
    no_memory _ _ _ _ _ _ _ _ _ _ at took _ _ _ _ all (omega (arith, before, i.source_later, e.later)) i.sink_later few (given_whole _ _ _ _ (λ more_comes. same_before _ _ _ _ i.kind ((rw (c.in-Ok.is ∙ ap Ok c.in-Some.is) at e.before_end) more_comes)) (e.end i.end)))

pub returns-in_default-write_outcome-clause-run : goal.returns-in_default-write_outcome-clause-run
returns-in_default-write_outcome-clause-run g c = λ left faults consumed before. (
    let i = c.loop-found.invariant in
    let e = c.next.ensures in
    let at = retook _ _ _ _ _ _ _ i.at (same_first _ _ _ _ _ i.kind e.first) in
    let took = same_took _ _ _ _ i.kind e.no_more in
    let all = all_taken _ _ _ _ _ consumed (gathered _ _ _ _ _ _ i.took e.bytes) in
    let few = not_more _ 268435456 (λ long. let f = sym c.in-Ok.is ∙ e.too_long.1 long in cc) in
    let same = c.in_default-write_outcome.ensures.untouched in
    rw same (no_memory _ _ _ _ _ _ _ _ _ _ at took _ _ _ _ all (omega (arith, before, i.source_later, e.later)) i.sink_later few (given_whole _ _ _ _ (λ more_comes. same_before _ _ _ _ i.kind ((rw (c.in-Ok.is ∙ ap Ok c.in-Some.is) at e.before_end) more_comes)) (e.end i.end))))

pub write_outcome-requires-clause-legal : goal.write_outcome-requires-clause-legal
write_outcome-requires-clause-legal g c = (
    let i = c.loop-found.invariant in
    let work = rw c.in-Some.is at c.in-Ok.ensures.work in
    sound_is_legal _ _ (c.in-Ok-finish.ensures.answers work.0 (subst (λ q. IsOf q work.0 c.in-Some.progress) (i.asked ∙ sym i.question) work.2)).1)

pub write_outcome-requires-clause-room : goal.write_outcome-requires-clause-room
write_outcome-requires-clause-room g c =
    let more = rw c.in-Some.is at c.in-Ok.ensures.given in
    room_at _ _ _ _ _ _ c.loop-found.invariant.at more.1

pub returns-in-Failed-clause-run : goal.returns-in-Failed-clause-run
returns-in-Failed-clause-run g c = λ left faults consumed before. (
    let i = c.loop-found.invariant in
    let e = c.next.ensures in
    let at = retook _ _ _ _ _ _ _ i.at (same_first _ _ _ _ _ i.kind e.first) in
    let took = same_took _ _ _ _ i.kind e.no_more in
    let all = all_taken _ _ _ _ _ consumed (gathered _ _ _ _ _ _ i.took e.bytes) in
    let few = not_more _ 268435456 (λ long. let f = sym c.in-Ok.is ∙ e.too_long.1 long in cc) in
    let work = rw c.in-Some.is at c.in-Ok.ensures.work in
    let found = same_item _ _ _ _ _ i.kind work.1 in
    let answers = same_answers _ _ _ _ i.question (c.in-Ok-finish.ensures.answers work.0 (subst (λ q. IsOf q work.0 c.in-Some.progress) (i.asked ∙ sym i.question) work.2)) in
    let w = c.in-Ok-write_outcome.ensures in
    let cause = rw c.in-Failed.is at w.cause in
    cut_item _ _ _ _ _ _ _ _ _ _ at took _ _ _ _ all (omega (arith, before, i.source_later, e.later)) _ work.0 c.in-Ok-finish.outcome _ c.in-Failed.field-0
    (omega (arith, cause.0, i.sink_later)) (rose_in _ _ _ i.sink_later cause.1) few found answers refl
    ((rw c.in-Failed.is at w.some) (λ h. cc)) (rw c.in-Failed.is at w.bytes)
    (next_whole _ _ _ _ (λ more_comes. same_before _ _ _ _ i.kind ((rw (c.in-Ok.is ∙ ap Ok c.in-Some.is) at e.before_end) more_comes)) (e.end i.end)))

pub loop-found-smaller : goal.loop-found-smaller
loop-found-smaller g c =
    let more = rw c.in-Some.is at c.in-Ok.ensures.given in
    omega (arith, more.0, more.1)

pub loop-found-preserved : goal.loop-found-preserved
loop-found-preserved g c =
    let i = c.loop-found.invariant in
    let e = c.next.ensures in
    let at = retook _ _ _ _ _ _ _ i.at (same_first _ _ _ _ _ i.kind e.first) in
    let work = rw c.in-Some.is at c.in-Ok.ensures.work in
    let found = same_item _ _ _ _ _ i.kind work.1 in
    let answers = same_answers _ _ _ _ i.question (c.in-Ok-finish.ensures.answers work.0 (subst (λ q. IsOf q work.0 c.in-Some.progress) (i.asked ∙ sym i.question) work.2)) in
    let more = rw c.in-Some.is at c.in-Ok.ensures.given in
    let w = c.in-Ok-write_outcome.ensures in
    record {
      at = rw c.write_outcome.ensures.counted (gave _ _ _ _ _ _ _ _ work.0 c.in-Ok-finish.outcome _ at found answers refl (rw c.in-All.is at w.bytes) more.0);
      kind = e.kind.0 ∙ i.kind;
      asked = e.kind.1 ∙ i.asked;
      question = c.finish.ensures.same_question ∙ i.question;
      took = gathered _ _ _ _ _ _ i.took e.bytes;
      end = e.end i.end;
      due = λ more_comes. (let settled = same_before _ _ _ _ i.kind ((rw (c.in-Ok.is ∙ ap Ok c.in-Some.is) at e.before_end) more_comes) in omega (arith, settled, more.0));
      goes_on = rw c.in-Ok.is at e.failed;
      few = not_more _ 268435456 (λ long. let f = sym c.in-Ok.is ∙ e.too_long.1 long in cc);
      source_later = omega (arith, e.later, i.source_later);
      sink_later = omega (arith, rw c.in-All.is at w.cause, i.sink_later);
      ready = c.finish.ensures.stays_ready;
      worked = g.met.J.Judge.both_worked c.args.judge.now c.loop-found.judge c.finish.new.judge c.loop-found.invariant.worked c.finish.ensures.worked;
    }
