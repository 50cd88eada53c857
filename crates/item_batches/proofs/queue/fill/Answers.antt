use Rattle.std.proofs.Common.{◌++◌, append_assoc, false, sym, subst}
use Rattle.side_by_side.specs.Parts.{items_of_all}
use Rattle.item_batches.specs.Batches.{IsQueued}
use Rattle.item_batches.proofs.Batching.{cut_asked}
use Rattle.item_batches.proofs.queue.fill.Goals as goal

pub begin_cut-requires-clause-asked : goal.begin_cut-requires-clause-asked
begin_cut-requires-clause-asked g c =
    let q = c.args.question.now in
    let new = c.cut_more.new.reader in
    let old = c.loop-queue.queue in
    let w = old.worked.items in
    let b = items_of_all old.begun.items in
    let cut = c.cut_more.new.queue.cut.items in
    let before = subst (λ x. IsQueued c.loop-queue.reader q x false) (sym (append_assoc w b old.cut.items)) c.loop-queue.invariant.queued in
    let after = subst (λ x. IsQueued new q x false) (append_assoc w b cut) (c.in_ok-cut_more.ensures.queued q (w ++ b) before) in
    cut_asked new q w cut old.begun.items after
