-- How far the work on an item has come (this project).
use Rattle.std.specs.Prelude.{◌≡◌, ℕ, ◌<◌, List, length, slice_index_or}
use Rattle.cha_outcome.specs.declared.items.Item.{Item}
use Rattle.cha_outcome.specs.declared.questions.Question.{Question}
use Rattle.cha_outcome.specs.Outcomes.{Answers, CanBeAsked, IsPrintableOutcome}
use Rattle.side_by_side.specs.declared.progress.Progress.{Progress}
use Rattle.side_by_side.specs.declared.progress.Progress.TheVariants.{Cut as OnlyCut, Read, Judged}
use Rattle.side_by_side.specs.Cuts.{item_of_cut, kind_of_cut, IsReadable, IsAskedOf}

-- It is the work on this item, about which the question is asked: what is cut can be read as the item, what is read is the item, and an
-- outcome answers the question about it and can be printed.
abbrev pub IsOf : Question → Item → Progress → Type 0
IsOf question item (OnlyCut cut) = (item_of_cut cut ≡ item) × IsReadable cut × IsAskedOf (kind_of_cut cut) question
IsOf question item (Read i) = (i ≡ item) × CanBeAsked question item
IsOf question item (Judged o cut) = Answers question item o × IsPrintableOutcome o

-- it is the work on some item about which the question is asked
abbrev pub IsAsked : Question → Progress → Type 0
IsAsked question progress = (item : Item) × IsOf question item progress

-- what was the work on an item is the work on that item
abbrev pub GoesOn : Question → Progress → Progress → Type 0
GoesOn question old new = (item : Item) → IsOf question item old → IsOf question item new

-- each of a batch is the work on some item about which the question is asked
abbrev pub AreAsked : Question → List Progress → Type 0
AreAsked question batch = (i : ℕ) (d : Progress) → i < length batch → IsAsked question (slice_index_or batch i d)

-- each of a batch goes on where it stands
unfoldable pub AllGoOn : Question → List Progress → List Progress → Type 0
AllGoOn question old new = (i : ℕ) (d : Progress) → i < length old → GoesOn question (slice_index_or old i d) (slice_index_or new i d)
