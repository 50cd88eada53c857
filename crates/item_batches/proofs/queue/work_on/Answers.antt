use Rattle.item_batches.proofs.Batching.{cut_asked}
use Rattle.item_batches.proofs.queue.work_on.Goals as goal

pub returns-then-is_empty-clause-about : goal.returns-then-is_empty-clause-about
returns-then-is_empty-clause-about g c = c.end_first.ensures.about c.args.question.now c.fill.ensures.about

pub begin_cut-requires-clause-about : goal.begin_cut-requires-clause-about
begin_cut-requires-clause-about g c = c.end_first.ensures.about c.args.question.now c.fill.ensures.about

pub begin_cut-requires-clause-asked : goal.begin_cut-requires-clause-asked
begin_cut-requires-clause-asked g c =
    let q = c.end_first.new.queue in
    cut_asked c.fill.new.reader c.args.question.now q.worked.items q.cut.items q.begun.items (c.end_first.ensures.queued c.args.question.now c.fill.new.reader c.fill.ensures.about c.in_ok-fill.ensures.queued)
