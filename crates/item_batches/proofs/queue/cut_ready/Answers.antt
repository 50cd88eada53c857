use Rattle.std.proofs.Common.{◌∙◌, ◌++◌, length-append, append_assoc, [], ◌∷◌, false, subst, arith}
use Rattle.side_by_side.specs.declared.progress.Progress.TheVariants.{Cut as OnlyCut}
use Rattle.item_batches.specs.Batches.{IsQueued}
use Rattle.item_batches.proofs.Batching.{one_more}
use Rattle.item_batches.proofs.queue.cut_ready.Goals as goal

pub loop-reader-preserved : goal.loop-reader-preserved
loop-reader-preserved c =
    let i = c.loop-reader.invariant in
    let e = c.ready.ensures in
    let given = rw c.in-Some.is at c.in_ok-cut.ensures.given in
    let cut = rw c.in-Some.is at c.in_ok-cut.ensures.cut in
    let settled = rw c.in-Some.is at c.in_ok-cut.ensures.settled in
    let size = length-append c.loop-reader.more.items (OnlyCut c.in-Some.cut ∷ []) in
    rw c.in-Ok.ensures.items (record {
      kind = e.kind ∙ i.kind;
      same = e.same.0 ∙ i.same;
      written = e.written ∙ i.written;
      ended = e.same.1 ∙ i.ended;
      goes_on = c.in_ok-cut.ensures.goes_on;
      count = omega (arith, given.0, i.count, size);
      longer = omega (arith, i.longer, size);
      queued = λ question front was. subst (λ x. IsQueued c.ready.new.self question x false) (append_assoc front c.loop-reader.more.items (OnlyCut c.in-Some.cut ∷ [])) (one_more c.loop-reader.reader c.ready.new.self question (front ++ c.loop-reader.more.items) c.in-Some.cut (i.queued question front was) e.kind e.same.0 c.in_ok-cut.ensures.goes_on given.0 given.1 settled e.no_more cut);
    })
