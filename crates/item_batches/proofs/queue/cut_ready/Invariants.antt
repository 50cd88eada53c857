use Rattle.std.proofs.Common.{◌≡◌, ◌+◌, ◌-◌, ◌≤◌, List, ◌++◌, false, length}
use Rattle.cha_outcome.specs.declared.questions.Question.{Question}
use Rattle.side_by_side.specs.declared.progress.Progress.{Progress}
use Rattle.item_batches.specs.Readers.{kind_of, taken_by, written_by, given_by, has_ended, CanGoOn}
use Rattle.item_batches.specs.Batches.{IsQueued}
use Rattle.item_batches.proofs.queue.cut_ready.Given as goal

-- what was cut so far stands behind the others
abbrev pub invariant-loop-reader : goal.invariant-loop-reader
invariant-loop-reader l = record {
  kind : kind_of l.reader ≡ kind_of l.fn.reader;
  same : taken_by l.reader ≡ taken_by l.fn.reader;
  written : written_by l.reader ≡ written_by l.fn.reader;
  ended : has_ended l.reader ≡ has_ended l.fn.reader;
  goes_on : CanGoOn l.reader;
  count : given_by l.reader + length l.fn.cut.items ≡ given_by l.fn.reader + length l.more.items;
  longer : length l.fn.cut.items ≤ length l.more.items;
  queued : (question : Question) (front : List Progress) → IsQueued l.fn.reader question (front ++ l.fn.cut.items) false → IsQueued l.reader question (front ++ l.more.items) false;
}

abbrev pub decreases-loop-reader : goal.decreases-loop-reader
decreases-loop-reader l = l.most - length l.more.items
