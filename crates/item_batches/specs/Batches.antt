-- What a queue of items holds, of which threads may have done the work (this project).
use Rattle.std.specs.Prelude.{◌≡◌, ℕ, ◌+◌, ◌-◌, ◌^◌, ◌≤◌, Bool, false, List, ◌++◌, length, Some, slice_get}
use Rattle.cha_outcome.specs.declared.items.Item.{Item}
use Rattle.cha_outcome.specs.declared.questions.Question.{Question}
use Rattle.side_by_side.specs.declared.cuts.ItemKind.{ItemKind}
use Rattle.side_by_side.specs.declared.cuts.Cut.{Cut}
use Rattle.side_by_side.specs.declared.progress.Progress.{Progress}
use Rattle.side_by_side.specs.Cuts.{item_of_cut, kind_of_cut, IsReadable, IsAskedOf}
use Rattle.side_by_side.specs.Progresses.{IsOf}
use Rattle.side_by_side.specs.Parts.{items_of_all}
use Rattle.item_batches.specs.declared.queue.Queue.{Queue}
use Rattle.item_batches.specs.declared.readers.ItemReader.{ItemReader}
use Rattle.item_batches.specs.Items.{TookAsNeeded}
use Rattle.item_batches.specs.Readers.{kind_of, taken_by, given_by, has_ended, items_by, settled_by, CanGoOn}

-- it is of a kind, and was cut from bytes as their item with a number, from 0
abbrev pub IsCutAt : ItemKind → List ℕ → ℕ → Cut → Type 0
IsCutAt kind bytes number cut =
    (slice_get (items_by kind bytes) number ≡ Some (item_of_cut cut)) × IsReadable cut × (kind_of_cut cut ≡ kind)

-- it is work on the item with a number
abbrev pub IsWorkAt : Question → List Item → ℕ → Progress → Type 0
IsWorkAt question items number progress = (item : Item) × (slice_get items number ≡ Some item) × IsOf question item progress

-- these are work on the items from a number on, in order
unfoldable pub AreWorkFrom : Question → List Item → ℕ → List Progress → Type 0
AreWorkFrom question items first queue = (i : ℕ) (progress : Progress) → slice_get queue i ≡ Some progress → IsWorkAt question items (first + i) progress

-- the items of a queue: those on which nobody works any more, those of parts, and those that are only cut
abbrev pub items_queued : Queue → List Progress
items_queued queue = queue.worked.items ++ (items_of_all queue.begun.items ++ queue.cut.items)

-- how many items were given, of those that a reader gave, where these are queued
abbrev pub given_from : ItemReader → Queue → ℕ
given_from reader queue = given_by reader - length (items_queued queue)

-- What contracts see of a queue: the kind of its items and what is asked about them, the bytes taken, how many of them were written, how
-- many items were given, whether the source has ended, and whether a call failed.
pub record BatchesState : Type 0 where
  pub kind : ItemKind
  pub question : Question
  pub taken : List ℕ
  pub written : ℕ
  pub given : ℕ
  pub ended : Bool
  pub failed : Bool

-- What is true of a queue: what is queued is work on the last items that the reader gave. Before the end of the source these are settled, and
-- their last piece was taken when the first of them was needed.
pub record IsQueued (reader : ItemReader) (question : Question) (queue : List Progress) (failed : Bool) : Type 0 where
  pub asked : IsAskedOf (kind_of reader) question
  pub few : length queue ≤ given_by reader
  pub work : AreWorkFrom question (items_by (kind_of reader) (taken_by reader)) (given_by reader - length queue) queue
  pub goes_on : failed ≡ false → CanGoOn reader
  pub most : failed ≡ false → given_by reader ≤ 2 ^ 62
  pub settled : failed ≡ false → has_ended reader ≡ false → given_by reader ≤ settled_by (kind_of reader) (taken_by reader)
  pub waits : 1 ≤ length queue → TookAsNeeded (settled_by (kind_of reader)) (taken_by reader) (given_by reader - length queue)
