-- The language of the command words, which leave out the program's name (this project). A word is a list of bytes.
use Rattle.std.specs.Prelude.{ℕ, ◌==◌, ◌&&◌, Bool, if◌then◌else◌, nat_le, List, [], ◌∷◌, map, length, filter_map, Option, Some, None, option_map, is_some, unwrap_or, true, false, codes, string_bytes}
use Rattle.std.specs.Str.{bytes_eq, all_ascii_digits}
use Rattle.std.specs.Str.Parse.{digits_value}
use Rattle.std.specs.List.{before_first, after_first}
use Rattle.std.specs.declared.string.String.{String}
use Rattle.std.specs.declared.alloc.Global.{Global}
use Rattle.cha_board.specs.declared.men.Color.{Color}
use Rattle.cha_board.specs.declared.men.Color.TheVariants.{White, Black}
use Rattle.cha_limits.specs.Bounds.{Bounds}
use Rattle.cha_words.specs.declared.orders.Order.{Order}
use Rattle.report_style.specs.declared.styles.Style.{Style}
use Rattle.report_style.specs.Asked.{style_asked}
use Rattle.cha_words.specs.declared.orders.Order.TheVariants.{AdjudicateGames, CorrectGames, JudgePositions, CheckCert, GenGames, ListMates, ReplayGames}
use Rattle.cha_words.specs.declared.chosen.Numbers.{Numbers}
use Rattle.cha_words.specs.declared.table.Command.{Command}
use Rattle.cha_words.specs.declared.table.Command.TheVariants.{Adjudicate, Correct, Position, Check, Gen, Mates, Replay}
use Rattle.cha_words.specs.declared.table.Setting.{Setting}
use Rattle.cha_words.specs.declared.table.Setting.TheVariants.{Budget, Workers, Depth, Entries, Certs, Json, San, Fens, FlaggedDraws, Changed}
use Rattle.cha_words.specs.declared.table.Range.{Range}
use Rattle.cha_words.specs.declared.table.Argument.{Argument}
use Rattle.cha_words.specs.declared.table.Argument.TheVariants.{Seed, Count, Side}
use Rattle.cha_words.specs.declared.given.Said.{Said}
use Rattle.cha_words.specs.declared.given.Said.TheVariants.{Nothing, Seeded, Games, Sided}

-- 1 to 20 ASCII digits that write a number from least to most
unfoldable pub is_number : ℕ → ℕ → List ℕ → Bool
is_number least most word =
    nat_le 1 (length word) && nat_le (length word) 20 && all_ascii_digits word && nat_le least (digits_value 10 word)
    && nat_le (digits_value 10 word) most

-- the number that they write
unfoldable pub number : ℕ → ℕ → List ℕ → Option ℕ
number least most word = if is_number least most word then Some (digits_value 10 word) else None

-- the command that the first word names, letter by letter
unfoldable pub command_named : List ℕ → Option Command
command_named word =
    if bytes_eq word (codes "adjudicate") then Some Adjudicate
    else (if bytes_eq word (codes "correct") then Some Correct
    else (if bytes_eq word (codes "position") then Some Position
    else (if bytes_eq word (codes "check") then Some Check
    else (if bytes_eq word (codes "gen") then Some Gen
    else (if bytes_eq word (codes "mates") then Some Mates
    else (if bytes_eq word (codes "replay") then Some Replay else None))))))

-- the option that a word names, letter by letter
unfoldable pub setting_named : List ℕ → Option Setting
setting_named word =
    if bytes_eq word (codes "--budget") then Some Budget
    else (if bytes_eq word (codes "--workers") then Some Workers
    else (if bytes_eq word (codes "--depth") then Some Depth
    else (if bytes_eq word (codes "--entries") then Some Entries
    else (if bytes_eq word (codes "--certs") then Some Certs
    else (if bytes_eq word (codes "--json") then Some Json
    else (if bytes_eq word (codes "--san") then Some San
    else (if bytes_eq word (codes "--fens") then Some Fens
    else (if bytes_eq word (codes "--flagged-draws") then Some FlaggedDraws
    else (if bytes_eq word (codes "--changed") then Some Changed else None)))))))))

-- a flag stands alone, which counts as the number 1; any other option stands with a number
abbrev pub is_flag : Setting → Bool
is_flag Certs = true
is_flag Json = true
is_flag San = true
is_flag Fens = true
is_flag FlaggedDraws = true
is_flag Changed = true
is_flag _ = false

-- numbers from least to most, and the one that counts where the option does not stand
abbrev pub from_to : ℕ → ℕ → ℕ → Range
from_to least most usual = record { least = least; most = most; usual = usual }

-- the table of options: whether one stands behind a command
abbrev pub takes : Command → Setting → Bool
takes Adjudicate Changed = false
takes Adjudicate _ = true
takes Correct Certs = false
takes Correct Json = false
takes Correct San = false
takes Correct Fens = false
takes Correct _ = true
takes Position FlaggedDraws = false
takes Position Changed = false
takes Position _ = true
takes Gen Budget = true
takes Gen Workers = true
takes Gen Depth = true
takes Gen Entries = true
takes Mates Workers = true
takes Mates Depth = true
takes Mates Json = true
takes Mates San = true
takes Replay Json = true
takes _ _ = false

-- the numbers that an option takes where it stands
abbrev pub numbers_for : Setting → Command → Range
numbers_for Budget _ = from_to 1 100000 20000
numbers_for Workers Gen = from_to 1 16 1
numbers_for Workers _ = from_to 1 16 2
numbers_for Depth Mates = from_to 1 6 4
numbers_for Depth _ = from_to 2 8 4
numbers_for Entries _ = from_to 1 65536 4096
numbers_for _ _ = from_to 0 1 0

-- the numbers that an option takes behind a command, or None where it does not stand there
abbrev pub range : Command → Setting → Option Range
range command setting = if takes command setting then Some (numbers_for setting command) else None

-- the table of the words that are no options: which comes next, by what such words have said
abbrev pub next_argument : Command → Said → Option Argument
next_argument Gen Nothing = Some Seed
next_argument Gen (Seeded seed) = Some Count
next_argument Mates Nothing = Some Side
next_argument _ _ = None

-- the side that a word names
unfoldable pub side_named : List ℕ → Option Color
side_named word = if bytes_eq word (codes "w") then Some White else (if bytes_eq word (codes "b") then Some Black else None)

-- the words behind the command fall into parts: an option with its value, and all other words
pub data Part : Type 0 where
  Value : Setting → List ℕ → Part
  Plain : List ℕ → Part

-- one word is an option's name, whose value the next word is, or a part by itself
pub data Piece : Type 0 where
  Name : Setting → Piece
  Whole : Part → Piece

-- name=value, cut at the first equals sign (ASCII 61), gives an option its value, and any other word stands for itself
abbrev pub part_by : Option Setting → List ℕ → Part
part_by (Some setting) word = if is_flag setting then Plain word else Value setting (after_first (λ b. b == 61) word)
part_by None word = Plain word

-- a word by itself: what stands before the first equals sign is the name, and the whole word where there is none
unfoldable pub part_of : List ℕ → Part
part_of word = part_by (setting_named (before_first (λ b. b == 61) word)) word

-- a word, by the option that it names
abbrev pub piece_by : Option Setting → List ℕ → Piece
piece_by (Some setting) word = if is_flag setting then Whole (Value setting (codes "1")) else Name setting
piece_by None word = Whole (part_of word)

-- a word
unfoldable pub piece : List ℕ → Piece
piece word = piece_by (setting_named word) word

-- the part that the last word is. A name there has the empty word as its value, which is no number.
abbrev pub last_part : Piece → Part
last_part (Name setting) = Value setting []
last_part (Whole part) = part

-- the part that begins with a word that another follows, before the parts of the words behind both or behind the first
abbrev pub part_before : Piece → List ℕ → List Part → List Part → List Part
part_before (Name setting) next behind_next behind = Value setting next ∷ behind_next
part_before (Whole part) next behind_next behind = part ∷ behind

-- the parts of the words: a name takes the next word as its value, whatever it is
abbrev pub parts : List (List ℕ) → List Part
parts [] = []
parts (word ∷ []) = last_part (piece word) ∷ []
parts (word ∷ next ∷ words) = part_before (piece word) next (parts words) (parts (next ∷ words))

-- the value that a part gives to an option
abbrev pub value_for : Setting → Part → Option (List ℕ)
value_for Budget (Value Budget word) = Some word
value_for Workers (Value Workers word) = Some word
value_for Depth (Value Depth word) = Some word
value_for Entries (Value Entries word) = Some word
value_for Certs (Value Certs word) = Some word
value_for Json (Value Json word) = Some word
value_for San (Value San word) = Some word
value_for Fens (Value Fens word) = Some word
value_for FlaggedDraws (Value FlaggedDraws word) = Some word
value_for Changed (Value Changed word) = Some word
value_for _ _ = None

-- the word that a part is
abbrev pub plain_word : Part → Option (List ℕ)
plain_word (Plain word) = Some word
plain_word _ = None

-- an option's number, by its values in the words: it stands at most once, and where it does not stand it has its usual number;
-- one that the command does not take does not stand, and counts as 0
abbrev pub chosen : Option Range → List (List ℕ) → Option ℕ
chosen None [] = Some 0
chosen None (word ∷ words) = None
chosen (Some range) [] = Some range.usual
chosen (Some range) (word ∷ []) = number range.least range.most word
chosen (Some range) (word ∷ more ∷ words) = None

-- each option has a number
abbrev pub has_all : (Setting → Option ℕ) → Bool
has_all f =
    is_some (f Budget) && is_some (f Workers) && is_some (f Depth) && is_some (f Entries) && is_some (f Certs) && is_some (f Json)
    && is_some (f San) && is_some (f Fens) && is_some (f FlaggedDraws) && is_some (f Changed)

-- their numbers
abbrev pub numbers_by : (Setting → ℕ) → Numbers
numbers_by f = record { budget = f Budget; workers = f Workers; depth = f Depth; entries = f Entries; certs = f Certs; json = f Json; san = f San; fens = f Fens; flagged_draws = f FlaggedDraws; changed = f Changed }

-- all of them, where each has one
abbrev pub all_of : (Setting → Option ℕ) → Option Numbers
all_of f = if has_all f then Some (numbers_by (λ setting. unwrap_or (f setting) 0)) else None

-- what a word says that is no option, behind those that said the second argument
abbrev pub say : Option Argument → Said → List ℕ → Option Said
say (Some Seed) said word = option_map Seeded (number 0 18446744073709551615 word)
say (Some Count) (Seeded seed) word = option_map (Games seed) (number 1 1000 word)
say (Some Side) said word = option_map Sided (side_named word)
say _ said word = None

-- what all words say that are no options, one behind the other
abbrev pub say_all : Command → Option Said → List (List ℕ) → Option Said
say_all command None words = None
say_all command (Some said) [] = Some said
say_all command (Some said) (word ∷ words) = say_all command (say (next_argument command said) said word) words

-- what a search may spend, by the numbers of the options
abbrev pub bounds : Numbers → Bounds
bounds n = record { budget = n.budget; depth = n.depth; workers = n.workers; entries = n.entries }

-- drawn games whose flag fell are examined, by the numbers of the options
abbrev pub examines : Numbers → Bool
examines n = n.flagged_draws == 1

-- only the games whose result changes are written, by the numbers of the options
abbrev pub selects : Numbers → Bool
selects n = n.changed == 1

-- how a report is printed, by the numbers of the options
abbrev pub style : Numbers → Style
style n = style_asked (record { certs = n.certs == 1; json = n.json == 1; san = n.san == 1; fens = n.fens == 1 })

-- the order of a command, by the numbers of its options and what its further words say
abbrev pub made : Command → Numbers → Said → Option Order
made Adjudicate n Nothing = Some (AdjudicateGames (bounds n) (examines n) (style n))
made Correct n Nothing = Some (CorrectGames (bounds n) (examines n) (selects n))
made Position n Nothing = Some (JudgePositions (bounds n) (style n))
made Check n Nothing = Some CheckCert
made Gen n (Games seed count) = Some (GenGames (bounds n) seed count)
made Mates n (Sided side) = Some (ListMates side n.workers n.depth (style n))
made Replay n Nothing = Some (ReplayGames (style n))
made _ n said = None

-- the same where one of them may be refused
abbrev pub made_of : Command → Option Numbers → Option Said → Option Order
made_of command (Some n) (Some said) = made command n said
made_of command _ _ = None

-- the numbers of all options, by the parts of the words
abbrev pub numbers : Command → List Part → Option Numbers
numbers command cut = all_of (λ setting. chosen (range command setting) (filter_map (value_for setting) cut))

-- what a command orders with the words behind it
unfoldable pub order_by : Command → List (List ℕ) → Option Order
order_by command words = let cut = parts words in made_of command (numbers command cut) (say_all command (Some Nothing) (filter_map plain_word cut))

-- the same where the first word may name no command
abbrev pub order_behind : Option Command → List (List ℕ) → Option Order
order_behind (Some command) words = order_by command words
order_behind None words = None

-- what is ordered by a list of words
unfoldable pub order_of : List (List ℕ) → Option Order
order_of [] = None
order_of (word ∷ words) = order_behind (command_named word) words

-- the same of the texts of the words
abbrev pub order : List (String Global) → Option Order
order words = order_of (map string_bytes words)

-- what an order lets a search of verdicts spend; those that need no such search have none
abbrev pub limits_in : Order → Option Bounds
limits_in (AdjudicateGames spend draws style) = Some spend
limits_in (CorrectGames spend draws changed) = Some spend
limits_in (JudgePositions spend style) = Some spend
limits_in (GenGames spend seed count) = Some spend
limits_in _ = None
