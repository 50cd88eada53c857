use Rattle.std.proofs.Common.{◌≡◌, ◌+◌, ◌-◌, ◌≤◌, [], false, length}
use Rattle.side_by_side.specs.Parts.{AreMine, AreAbout}
use Rattle.item_batches.specs.Readers.{kind_of, taken_by, written_by, given_by, has_ended}
use Rattle.item_batches.specs.Batches.{items_queued, IsQueued}
use Rattle.item_batches.proofs.queue.fill.Given as goal

-- nothing that was queued is lost, and the work on none has ended
abbrev pub invariant-loop-queue : goal.invariant-loop-queue
invariant-loop-queue g l = record {
  kind : kind_of l.reader ≡ kind_of l.fn.reader;
  same : taken_by l.reader ≡ taken_by l.fn.reader;
  ended : has_ended l.reader ≡ has_ended l.fn.reader;
  written : written_by l.reader ≡ written_by l.fn.reader;
  mine : AreMine g.H.Hands.mine l.queue.begun.items;
  about : AreAbout l.question l.queue.begun.items;
  none : l.queue.worked.items ≡ [];
  count : given_by l.reader + length (items_queued l.fn.queue) ≡ given_by l.fn.reader + length (items_queued l.queue);
  some : 1 ≤ length (items_queued l.queue);
  queued : IsQueued l.reader l.question (items_queued l.queue) false;
  most : 1 ≤ l.most;
}

abbrev pub decreases-loop-queue : goal.decreases-loop-queue
decreases-loop-queue g l = l.most - length l.queue.begun.items
