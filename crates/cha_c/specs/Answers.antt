-- What the exports answer (this project).
use Rattle.std.specs.Prelude.{◌≡◌, ℕ, ◌<◌, ◌≤◌, ◌==◌, ◌⊎◌, List, [], length, take, Option, Some}
use Rattle.std.specs.Str.{IsUtf8}
use Rattle.std.specs.List.{slice_split}
use Rattle.cha_words.specs.declared.orders.Order.{Order}
use Rattle.cha_words.specs.Language.{order_of}
use Rattle.adjudicate.specs.declared.endings.Status.{Status}
use Rattle.adjudicate.specs.declared.endings.Status.TheVariants.{Done, Usage, ReadFault, WriteFault, TooLong, NoMemory, NotAccepted}
use Rattle.adjudicate.specs.Corrections.{noted}
use Rattle.adjudicate.specs.Orders.{IsRun}
use Rattle.adjudicate.specs.Runs.{outside}

-- the command words stand between the zero bytes
abbrev pub words_at_zeros : List ℕ → List (List ℕ)
words_at_zeros bytes = slice_split (λ b. b == 0) bytes

-- the bytes are UTF-8, and their words order something
abbrev pub Orders : List ℕ → Order → Type 0
Orders words order = IsUtf8 words × (order_of (words_at_zeros words) ≡ Some order)

-- what a sink that grows has taken, and how often memory was refused
pub record GrownState : Type 0 where
  pub bytes : List ℕ
  pub faults : ℕ

-- the number of a status: the program's exit status, and want of memory where the output could not grow
abbrev pub number_in_c : Status → ℕ
number_in_c Done = 0
number_in_c Usage = 1
number_in_c ReadFault = 2
number_in_c WriteFault = 5
number_in_c TooLong = 4
number_in_c NoMemory = 5
number_in_c NotAccepted = 6

-- a run over a whole input ended in a status and wrote an output; the summary that stands on standard error, of a run that corrects
-- games, is not handed out
abbrev pub Ran : Order → List ℕ → Status → GrownState → Type 0
Ran order input status kept = (left : Option (List ℕ)) × (notes : GrownState) ×
    IsRun order status (outside (Some input) 0 (Some []) 0) (outside left 0 (Some kept.bytes) kept.faults) (noted (Some []) 0) (noted (Some notes.bytes) notes.faults)

-- What is answered of an output of a status: its length; and where it fits into the room, the number of the status with the output
-- at the front of the room. Where it does not fit, the number is 7.
pub record HandsOut (status : Status) (whole : List ℕ) (number used : ℕ) (room : List ℕ) : Type 0 where
  pub size : used ≡ length whole
  pub told : length whole ≤ length room → number ≡ number_in_c status
  pub text : length whole ≤ length room → take used room ≡ whole
  pub no_room : length room < length whole → number ≡ 7

-- What is answered to words and an input: of words that order something the output of a run for their order, and 1 with no output
-- of any others, unless memory is refused.
pub record Answers (words input : List ℕ) (number used : ℕ) (room : List ℕ) : Type 0 where
  pub ran : (order : Order) → Orders words order → (status : Status) × (kept : GrownState) × Ran order input status kept × HandsOut status kept.bytes number used room
  pub usage : number ≡ 1 → (used ≡ 0) × ((order : Order) → Orders words order → ⊥)
  pub other : ((order : Order) → Orders words order → ⊥) → (used ≡ 0) × ((number ≡ 1) ⊎ (number ≡ 5))
