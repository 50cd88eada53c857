-- What the words read so far have given, and what the rest makes of it.
use Rattle.std.specs.Prelude.{◌≡◌, ℕ, ◌≤◌, List, [], ◌∷◌, filter_map, Option, Some, None, IsSome, MatchOption, ⊤}
use Rattle.cha_words.specs.declared.orders.Order.{Order}
use Rattle.cha_words.specs.declared.chosen.Numbers.{Numbers}
use Rattle.cha_words.specs.declared.table.Command.{Command}
use Rattle.cha_words.specs.declared.table.Command.TheVariants.{Gen, Mates}
use Rattle.cha_words.specs.declared.table.Setting.{Setting}
use Rattle.cha_words.specs.declared.table.Setting.TheVariants.{Budget, Workers, Depth, Entries, Certs, Json, San, Fens, FlaggedDraws, Changed}
use Rattle.cha_words.specs.declared.table.Range.{Range}
use Rattle.cha_words.specs.declared.given.Given.{Given}
use Rattle.cha_words.specs.declared.given.Said.{Said}
use Rattle.cha_words.specs.declared.given.Said.TheVariants.{Nothing, Seeded, Games, Sided}
use Rattle.cha_words.specs.declared.given.Progress.{Progress}
use Rattle.cha_words.specs.Language.{Part, Piece, piece, piece_by, range, value_for, plain_word, chosen, all_of, say_all, made_of}
use Rattle.cha_words.specs.Language.Part.{Value}
use Rattle.cha_words.specs.Language.Piece.{Name, Whole}

-- the parts that begin with a word, before the parts behind it, which may begin with the value that it awaits
abbrev pub with_piece : Piece → (Option Setting → List Part) → List Part
with_piece (Name setting) behind = behind (Some setting)
with_piece (Whole part) behind = part ∷ behind None

-- the parts of the words, where a name may await its value
unfoldable pub parts_awaiting : Option Setting → List (List ℕ) → List Part
parts_awaiting None [] = []
parts_awaiting (Some setting) [] = Value setting [] ∷ []
parts_awaiting (Some setting) (word ∷ words) = Value setting word ∷ parts_awaiting None words
parts_awaiting None (word ∷ words) = with_piece (piece word) (λ awaited. parts_awaiting awaited words)

-- the number given to an option
abbrev pub value_in : Setting → Given → Option ℕ
value_in Budget given = given.budget
value_in Workers given = given.workers
value_in Depth given = given.depth
value_in Entries given = given.entries
value_in Certs given = given.certs
value_in Json given = given.json
value_in San given = given.san
value_in Fens given = given.fens
value_in FlaggedDraws given = given.flagged_draws
value_in Changed given = given.changed

-- the same with an option given
abbrev pub put : Setting → ℕ → Given → Given
put Budget n given = record given { budget = Some n }
put Workers n given = record given { workers = Some n }
put Depth n given = record given { depth = Some n }
put Entries n given = record given { entries = Some n }
put Certs n given = record given { certs = Some n }
put Json n given = record given { json = Some n }
put San n given = record given { san = Some n }
put Fens n given = record given { fens = Some n }
put FlaggedDraws n given = record given { flagged_draws = Some n }
put Changed n given = record given { changed = Some n }

-- the numbers that an option may be given now: none where it is given already, or where the command does not take it
abbrev pub open_by : Option ℕ → Option Range → Option Range
open_by None range = range
open_by (Some n) range = None

abbrev pub open_in : Command → Given → Setting → Option Range
open_in command given setting = open_by (value_in setting given) (range command setting)

-- the number of an option that may be given already, with the values that are still to come
abbrev pub chosen_from : Option Range → Option ℕ → List (List ℕ) → Option ℕ
chosen_from range None words = chosen range words
chosen_from range (Some n) [] = Some n
chosen_from range (Some n) (word ∷ words) = None

-- the numbers of all options, with the parts that are still to come
abbrev pub numbers_from : Command → Given → List Part → Option Numbers
numbers_from command given parts = all_of (λ setting. chosen_from (range command setting) (value_in setting given) (filter_map (value_for setting) parts))

-- what a command orders with what is given and the parts that are still to come
unfoldable pub order_from : Command → Given → List Part → Option Order
order_from command given parts = made_of command (numbers_from command given parts) (say_all command (Some given.said) (filter_map plain_word parts))

-- a command that searches for verdicts: a budget can be given to it
abbrev pub IsSearch : Command → Type 0
IsSearch command = IsSome (range command Budget)

-- a number lies in a range
abbrev pub IsIn : Option Range → ℕ → Type 0
IsIn None n = ⊤
IsIn (Some range) n = (range.least ≤ n) × (n ≤ range.most)

-- the numbers by which a search is bounded lie in their ranges
pub record AreIn (command : Command) (numbers : Numbers) : Type 0 where
  pub budget : IsIn (range command Budget) numbers.budget
  pub workers : IsIn (range command Workers) numbers.workers
  pub depth : IsIn (range command Depth) numbers.depth
  pub entries : IsIn (range command Entries) numbers.entries

-- a number that is given lies in a range
abbrev pub IsGivenIn : Option Range → Option ℕ → Type 0
IsGivenIn range None = ⊤
IsGivenIn None (Some n) = ⊥
IsGivenIn (Some range) (Some n) = IsIn (Some range) n

-- words that are no options say this behind a command
abbrev pub IsSaid : Command → Said → Type 0
IsSaid command Nothing = ⊤
IsSaid Gen (Seeded seed) = ⊤
IsSaid Gen (Games seed count) = (1 ≤ count) × (count ≤ 1000)
IsSaid Mates (Sided side) = ⊤
IsSaid _ _ = ⊥

-- what is given can be given behind a command
pub record Fits (command : Command) (given : Given) : Type 0 where
  pub settings : (setting : Setting) → IsGivenIn (range command setting) (value_in setting given)
  pub said : IsSaid command given.said

-- the option whose value comes next may be given one
abbrev pub AwaitsValue : Command → Given → Option Setting → Type 0
AwaitsValue command given None = ⊤
AwaitsValue command given (Some setting) = IsSome (open_in command given setting)

-- words can stand so behind a command
pub record Stands (command : Command) (progress : Progress) : Type 0 where
  pub fits : Fits command progress.given
  pub awaits : AwaitsValue command progress.given progress.awaited

-- one part is taken: it makes the order refused, or is what is given from then on
unfoldable pub Takes : Command → Given → Part → Option Given → Type 0
Takes command given part result =
    MatchOption result ((parts : List Part) → order_from command given (part ∷ parts) ≡ None)
    (λ next. Fits command next × ((parts : List Part) → order_from command given (part ∷ parts) ≡ order_from command next parts))

-- no option awaits its value
abbrev pub settled_of : Option Given → Option Progress
settled_of (Some given) = Some (record { given = given; awaited = None })
settled_of None = None

-- what a command orders with words that stand, and the words behind them
abbrev pub order_with : Command → Progress → List (List ℕ) → Option Order
order_with command progress words = order_from command progress.given (parts_awaiting progress.awaited words)

-- one word is taken
unfoldable pub TakesWord : Command → Progress → List ℕ → Option Progress → Type 0
TakesWord command progress word result =
    MatchOption result ((words : List (List ℕ)) → order_with command progress (word ∷ words) ≡ None)
    (λ next. Stands command next × ((words : List (List ℕ)) → order_with command progress (word ∷ words) ≡ order_with command next words))

-- one word is taken that names an option, where none awaits its value
unfoldable pub TakesName : Command → Given → Setting → Option Progress → Type 0
TakesName command given setting result =
    MatchOption result ((words : List (List ℕ)) → order_from command given (with_piece (piece_by (Some setting) []) (λ awaited. parts_awaiting awaited words)) ≡ None)
    (λ next. Stands command next × ((words : List (List ℕ)) → order_from command given (with_piece (piece_by (Some setting) []) (λ awaited. parts_awaiting awaited words)) ≡ order_with command next words))
