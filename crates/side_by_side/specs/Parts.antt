-- Items that are worked on together (this project).
use Rattle.std.specs.Prelude.{◌≡◌, ◌≤◌, List, [], ◌∷◌, ◌++◌, length, All, ⊤}
use Rattle.std.specs.Mem.{manually_drop_value}
use Rattle.cha_outcome.specs.declared.questions.Question.{Question}
use Rattle.side_by_side.specs.declared.progress.Progress.{Progress}
use Rattle.side_by_side.specs.declared.parts.Part.{Part}
use Rattle.side_by_side.specs.declared.parts.Part.TheVariants.{Here, There}

-- its items, as far as work on them had come when it was begun
abbrev pub items_of : Part → List Progress
items_of (Here items) = items.items
items_of (There task) = (manually_drop_value task).handle.promise.items.value.items

-- nobody works on it
abbrev pub IsHere : Part → Type 0
IsHere (Here items) = ⊤
IsHere (There task) = ⊥

-- a thread that works on it was told that this is asked
abbrev pub IsAbout : Question → Part → Type 0
IsAbout question (Here items) = ⊤
IsAbout question (There task) = (manually_drop_value task).handle.promise.question ≡ question

-- the items of parts behind one another
abbrev pub items_of_all : List Part → List Progress
items_of_all [] = []
items_of_all (part ∷ parts) = items_of part ++ items_of_all parts

-- hands can end each of these, and each has an item
abbrev pub AreMine : (Part → Type 0) → List Part → Type 0
AreMine mine parts = All (λ part. mine part × (1 ≤ length (items_of part))) parts

-- threads that work on these were told that this is asked
abbrev pub AreAbout : Question → List Part → Type 0
AreAbout question parts = All (IsAbout question) parts
