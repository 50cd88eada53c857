-- What is said of words that order nothing (this project).
use Rattle.std.specs.Prelude.{◌≡◌, ◌↔◌, ℕ, ◌<◌, ◌≤◌, List, ◌∷◌, ◌++◌, length, take, suc, Option, Some, None, IsSome, ⊤}
use Rattle.cha_words.specs.declared.orders.Order.{Order}
use Rattle.cha_words.specs.declared.faults.Expected.{Expected}
use Rattle.cha_words.specs.declared.faults.Expected.TheVariants.{First, Behind}
use Rattle.cha_words.specs.declared.faults.UsageFault.{UsageFault}
use Rattle.cha_words.specs.Language.{number, setting_named, next_argument, say, part_of, order_of}
use Rattle.cha_words.specs.Language.Part.{Plain}
use Rattle.cha_words.specs.declared.table.Command.{Command}
use Rattle.cha_words.specs.declared.table.Setting.{Setting}
use Rattle.cha_words.specs.declared.table.Range.{Range}
use Rattle.cha_words.specs.declared.given.Progress.{Progress}
use Rattle.cha_words.specs.Reading.{open_in, order_with, Stands}

-- what is ordered by words that come where these are expected
abbrev pub order_after : Expected → List (List ℕ) → Option Order
order_after First words = order_of words
order_after (Behind command progress) words = order_with command progress words

-- words can stand so before the place
abbrev pub IsExpected : Expected → Type 0
IsExpected First = ⊤
IsExpected (Behind command progress) = Stands command progress

-- Words of a language order nothing. Those before the fault can be continued to an order. With the word at the fault they cannot;
-- where there is none, a word is missing. And what is expected there is what words there have to be.
pub record IsFaultOf (orders : List (List ℕ) → Option Order) (words : List (List ℕ)) (index : ℕ) (what : Expected) : Type 0 where
  pub refused : orders words ≡ None
  pub within : index ≤ length words
  pub before : (more : List (List ℕ)) × (order : Order) × (orders (take index words ++ more) ≡ Some order)
  pub wrong : index < length words → (more : List (List ℕ)) → orders (take (suc index) words ++ more) ≡ None
  pub stands : IsExpected what
  pub expected : (more : List (List ℕ)) → orders (take index words ++ more) ≡ order_after what more

-- the same of the words behind the program's name
abbrev pub IsFault : List (List ℕ) → UsageFault → Type 0
IsFault words fault = IsFaultOf order_of words fault.index fault.expected

-- some words behind a word make an order of it and of those before it
abbrev pub CanStand : Command → Progress → List ℕ → Type 0
CanStand command progress word = (more : List (List ℕ)) × (order : Order) × (order_with command progress (word ∷ more) ≡ Some order)

-- the name of an option can stand exactly where the option may be given
abbrev pub NamesStand : Type 0
NamesStand = (c : Command) (p : Progress) (s : Setting) (word : List ℕ) → Stands c p → p.awaited ≡ None → setting_named word ≡ Some s → CanStand c p word ↔ IsSome (open_in c p.given s)

-- where an option awaits its number, a word can stand exactly if it is one in the option's range
abbrev pub NumbersStand : Type 0
NumbersStand = (c : Command) (p : Progress) (s : Setting) (r : Range) (word : List ℕ) → Stands c p → p.awaited ≡ Some s → open_in c p.given s ≡ Some r → CanStand c p word ↔ IsSome (number r.least r.most word)

-- a word that is no option can stand exactly if it says what comes next of such words
abbrev pub FurtherStand : Type 0
FurtherStand = (c : Command) (p : Progress) (word : List ℕ) → Stands c p → p.awaited ≡ None → setting_named word ≡ None → part_of word ≡ Plain word
    → CanStand c p word ↔ IsSome (say (next_argument c p.given.said) p.given.said word)
