use Rattle.std.proofs.Common.{rules, ◌≡◌, ◌∙◌, false, sym, subst}
use Rattle.side_by_side.specs.Parts.{AreMine, AreAbout}
use Rattle.item_batches.specs.Items.{TookAsNeeded}
use Rattle.item_batches.specs.Readers.{kind_of, settled_by}
use Rattle.item_batches.specs.Batches.{items_queued, given_from, IsQueued}
use Rattle.item_batches.proofs.Batching.{failed_queue}
use Rattle.item_batches.proofs.batches.Batches.next.Goals as goal

pub invariant_of-self-in-Err : goal.invariant_of-self-in-Err
invariant_of-self-in-Err g c =
    let s = c.self.inside in
    let i = c.self.invariant in
    let e = c.in-Err.ensures in (
      i.0,
      subst (λ parts. AreMine g.H.Hands.mine parts.items) (sym e.begun) i.1,
      subst (λ parts. AreAbout s.question parts.items) (sym e.begun) i.2,
      failed_queue s.reader c.await_item.new.reader s.question (items_queued s.queue) (items_queued c.await_item.new.queue) s.failed i.3 e.refused e.kind,
    )

pub invariant_of-self-in-Err-take_first : goal.invariant_of-self-in-Err-take_first
invariant_of-self-in-Err-take_first g c =
    let s = c.self.inside in
    let i = c.self.invariant in
    let e = c.in-Err-take_first.ensures in
    (i.0, e.mine, e.about, failed_queue s.reader c.take_first.new.reader s.question (items_queued s.queue) (items_queued c.take_first.new.queue) s.failed i.3 e.refused (e.kind ∙ c.await_item.ensures.kind))

-- no piece was taken before it was needed
pub returns-in-Ok-clause-no_more : goal.returns-in-Ok-clause-no_more
returns-in-Ok-clause-no_more g c =
    let s = c.self.inside in
    let works : s.failed ≡ false = search rules in
    let took = c.await_item.ensures.no_more s.question (subst (IsQueued s.reader s.question (items_queued s.queue)) works c.self.invariant.3) in
    rw (sym c.self.view_is) (subst (λ taken. TookAsNeeded (settled_by (kind_of s.reader)) taken (given_from s.reader s.queue)) (sym c.in-Ok.ensures.same.0) took)
