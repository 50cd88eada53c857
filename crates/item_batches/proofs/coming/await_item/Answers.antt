use Rattle.std.proofs.Common.{rules, ◌≡◌, [], ◌∙◌, ap, sym, subst, Ok, false}
use Rattle.side_by_side.specs.declared.progress.Progress.TheVariants.{Cut as OnlyCut}
use Rattle.item_batches.specs.Batches.{items_queued, IsQueued}
use Rattle.item_batches.proofs.Batching.{one_item, come, none_left}
use Rattle.item_batches.proofs.coming.await_item.Goals as goal

-- what has come
pub returns-in-Ok-clause-queued : goal.returns-in-Ok-clause-queued
returns-in-Ok-clause-queued g c = λ question h.
    let q = c.args.queue.now in
    let none : items_queued q ≡ [] = search rules in
    let one = one_item q.worked.items q.cut.items c.put_first.new.cut.items q.begun.items (OnlyCut c.in-Ok-Some.first) none c.in-Ok.ensures.ok in
    let given = rw c.in-Ok-Some.field-0-is at c.in-Ok-Some.ensures.given in
    let at = rw c.in-Ok-Some.field-0-is at c.in-Ok-Some.ensures.cut in
    subst (λ x. IsQueued c.next.new.self question x false) (sym one)
    (come c.args.reader.now c.next.new.self question c.in-Ok-Some.first h.asked c.next.ensures.kind c.in-Ok-Some.ensures.goes_on given.0 given.1 (λ more_comes. (let before = c.in-Ok-Some.ensures.before_end more_comes in rw c.in-Ok-Some.field-0-is at before)) c.next.ensures.no_more at)

-- where no item is left
pub returns-in-Ok-None-clause-queued : goal.returns-in-Ok-None-clause-queued
returns-in-Ok-None-clause-queued g c = λ question h.
    let q = c.args.queue.now in
    let none : items_queued q ≡ [] = search rules in
    let is = c.in-Ok-None.is ∙ ap Ok c.in-Ok-None.field-0-is in
    let stays = rw c.in-Ok-None.field-0-is at c.in-Ok-None.ensures.stays in
    none_left c.args.reader.now c.next.new.self question (items_queued q) (items_queued q) false h none c.next.ensures.kind stays c.in-Ok-None.ensures.goes_on (c.next.ensures.none is).0
