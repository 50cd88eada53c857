use Rattle.std.proofs.Common.{◌≡◌, [], ◌++◌, length, false, ap, sym, ◌∙◌, subst}
use Rattle.side_by_side.specs.Progresses.{AreAsked, AllGoOn}
use Rattle.side_by_side.specs.Parts.{items_of, items_of_all}
use Rattle.item_batches.specs.Batches.{IsQueued}
use Rattle.item_batches.proofs.Batching.{begun_size, begun_queue}
use Rattle.item_batches.proofs.queue.begin_cut.Goals as goal

pub begin-requires-clause-about : goal.begin-requires-clause-about
begin-requires-clause-about g c = subst (λ v. AreAsked c.args.question.now v.items) (sym c.replace-cut.ensures.value) c.requires.asked

pub returns-in-Ok-clause-size : goal.returns-in-Ok-clause-size
returns-in-Ok-clause-size g c =
    let q = c.args.queue.now in
    let none : c.replace-cut.new.dest.items ≡ [] = ap (λ v. v.items) c.replace-cut.ensures.after ∙ c.new.ensures.items in
    let size : length (items_of c.begin.result) ≡ length q.cut.items = c.begin.ensures.size ∙ ap (λ v. length v.items) c.replace-cut.ensures.value in
    subst (λ x. length (q.worked.items ++ (items_of_all c.push_back.new.self.items ++ x)) ≡ length (q.worked.items ++ (items_of_all q.begun.items ++ q.cut.items))) (sym none)
    (begun_size q.worked.items q.cut.items q.begun.items c.push_back.new.self.items c.begin.result c.in-Ok.ensures.items size)

pub returns-in-Ok-clause-queued : goal.returns-in-Ok-clause-queued
returns-in-Ok-clause-queued g c = λ reader h.
    let q = c.args.queue.now in
    let none : c.replace-cut.new.dest.items ≡ [] = ap (λ v. v.items) c.replace-cut.ensures.after ∙ c.new.ensures.items in
    let size : length (items_of c.begin.result) ≡ length q.cut.items = c.begin.ensures.size ∙ ap (λ v. length v.items) c.replace-cut.ensures.value in
    let goes = subst (λ v. AllGoOn c.args.question.now v.items (items_of c.begin.result)) c.replace-cut.ensures.value c.begin.ensures.same in
    subst (λ x. IsQueued reader c.args.question.now (q.worked.items ++ (items_of_all c.push_back.new.self.items ++ x)) false) (sym none)
    (begun_queue reader c.args.question.now q.worked.items q.cut.items q.begun.items c.push_back.new.self.items c.begin.result c.in-Ok.ensures.items size goes h)
