use Rattle.item_batches.specs.Batches.{items_queued}
use Rattle.item_batches.proofs.Batching.{same_queue}
use Rattle.item_batches.proofs.batches.Batches.text_of_game.Goals as goal

pub invariant_of-self : goal.invariant_of-self
invariant_of-self g c =
    let s = c.self.inside in
    let e = c.text_of_game.ensures in
    let i = c.self.invariant in
    (i.0, i.1, i.2, same_queue s.reader c.text_of_game.new.self s.question (items_queued s.queue) s.failed i.3 e.kind e.same.0 e.same.1 e.same.2 (λ _. e.goes_on))
