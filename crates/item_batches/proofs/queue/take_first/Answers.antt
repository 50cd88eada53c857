use Rattle.std.proofs.Common.{◌≡◌, ◌-◌, ◌++◌, length, Some, arith, sym}
use Rattle.side_by_side.specs.Parts.{items_of_all}
use Rattle.item_batches.specs.Readers.{kind_of, taken_by, given_by}
use Rattle.item_batches.specs.Batches.{items_queued}
use Rattle.item_batches.proofs.Batching.{first_found, popped_any}
use Rattle.item_batches.proofs.queue.take_first.Goals as goal

pub returns-clause-work : goal.returns-clause-work
returns-clause-work g c =
    let old = c.args.reader.now in
    let new = c.work_on.new.reader in
    let q = c.work_on.new.queue in
    let e = c.in-Ok.ensures in
    let number : given_by old - length (items_queued c.args.queue.now) ≡ given_by new - length (items_queued q) = omega (arith, e.count, c.requires.queued.few, e.queued.few) in
    first_found c.args.question.now (Some c.in-Some.progress) q.worked.items c.pop_front.new.self.items (items_of_all q.begun.items ++ q.cut.items) (kind_of new) (kind_of old) (taken_by new) (taken_by old)
    (given_by new - length (items_queued q)) (given_by old - length (items_queued c.args.queue.now)) (sym e.kind) (sym e.same.0) number c.in-Some.ensures.items e.queued.work

pub returns-clause-queued : goal.returns-clause-queued
returns-clause-queued g c =
    let q = c.work_on.new.queue in
    popped_any c.work_on.new.reader c.args.question.now (Some c.in-Some.progress) q.worked.items c.pop_front.new.self.items (items_of_all q.begun.items ++ q.cut.items) _ c.in-Some.ensures.items c.in-Ok.ensures.queued
