use Rattle.std.proofs.Common.{◌≡◌, ◌≤◌, ◌++◌, length, false, ap, sym, ◌∙◌, subst}
use Rattle.side_by_side.specs.Progresses.{AllGoOn}
use Rattle.side_by_side.specs.Parts.{items_of, items_of_all, IsAbout}
use Rattle.item_batches.specs.Batches.{IsQueued}
use Rattle.item_batches.proofs.Batching.{ended_queue, first_part, rest_parts}
use Rattle.item_batches.proofs.queue.end_first.Goals as goal

pub returns-in-Some-clause-mine : goal.returns-in-Some-clause-mine
returns-in-Some-clause-mine g c = rest_parts (λ part. g.H.Hands.mine part × (1 ≤ length (items_of part))) c.in-Some.part c.pop_front.new.self.items c.args.queue.now.begun.items c.in-Some.ensures.items c.requires.mine

pub returns-in-Some-clause-about : goal.returns-in-Some-clause-about
returns-in-Some-clause-about g c = λ question about. rest_parts (IsAbout question) c.in-Some.part c.pop_front.new.self.items c.args.queue.now.begun.items c.in-Some.ensures.items about

pub returns-in-Some-clause-queued : goal.returns-in-Some-clause-queued
returns-in-Some-clause-queued g c = λ question reader about h.
    let q = c.args.queue.now in
    let part = c.in-Some.part in
    let same : c.from.result.items ≡ c.end.result.items = c.from.ensures.0 in
    let told = first_part (IsAbout question) part c.pop_front.new.self.items q.begun.items c.in-Some.ensures.items about in
    ended_queue reader question c.from.result.items q.cut.items q.begun.items c.pop_front.new.self.items part c.in-Some.ensures.items (ap length same ∙ c.end.ensures.size)
    (subst (λ w. AllGoOn question (items_of part) w) (sym same) (c.end.ensures.same question told))
    (subst (λ w. IsQueued reader question (w ++ (items_of_all q.begun.items ++ q.cut.items)) false) c.requires.none h)
