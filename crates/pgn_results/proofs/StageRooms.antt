-- Which bytes begin a piece, at each stage of the piece before.
use Rattle.std.specs.Bool.{⊤}
use Rattle.std.proofs.Common.{◌≡◌, ℕ, ◌==◌, Bool, true, false, not, ◌&&◌, ◌||◌, if◌then◌else◌, List, [], ◌∷◌, ◌++◌, refl, sym, ap, ◌∙◌, append_assoc}
use Rattle.std.proofs.lemmas.Bool.{eqb-true}
use Rattle.std.proofs.lemmas.List.Sums.{fold_push}
use Rattle.cha_list.specs.declared.classes.Class.TheVariants.{Blank, InLine, Digit}
use Rattle.cha_list.specs.Bytes.{in_class}
use Rattle.pgn_lex.specs.declared.classes.PgnClass.TheVariants.{NotBrace, WordByte, NameByte}
use Rattle.pgn_lex.specs.Classes.{in_pgn_class}
use Rattle.pgn_lex.specs.declared.stages.Stage.{Stage}
use Rattle.pgn_lex.specs.declared.stages.Stage.TheVariants.{Start, MarkBegun, MarkGrown, Marked, Between, RestOfLine, InComment, AfterDollar, InNumber, InWord, InTag, InName, AfterName, InValue, AfterBackslash, AfterValue, TagRead, Spoilt, StarRead, EnterRead, LeaveRead, BadRead}
use Rattle.pgn_lex.specs.declared.stages.Next.{Next}
use Rattle.pgn_lex.specs.declared.stages.Next.TheVariants.{Stays, Over}
use Rattle.pgn_lex.specs.Pieces.{is_white}
use Rattle.pgn_lex.specs.Stages.{begun, run_on, spoils, after_part, in_value, past_backslash, next_stage, Machine, stepped, read_from, machine}
use Rattle.pgn_lex.proofs.Feeding.{machine_more}
use Rattle.pgn_results.specs.Replacing.{leans}

-- 0: a star would belong to the piece; 1: a digit would; 2: both would begin the next piece
abbrev pub room : Stage → ℕ
room Start = 2
room MarkBegun = 2
room MarkGrown = 2
room Marked = 2
room Between = 2
room RestOfLine = 0
room InComment = 0
room AfterDollar = 1
room InNumber = 1
room InWord = 1
room InTag = 0
room InName = 0
room AfterName = 0
room InValue = 0
room AfterBackslash = 0
room AfterValue = 0
room TagRead = 2
room Spoilt = 0
room StarRead = 2
room EnterRead = 2
room LeaveRead = 2
room BadRead = 2

abbrev pub is_over : Next → Bool
is_over Over = true
is_over (Stays now) = false

pub over_is : (next : Next) → is_over next ≡ true → next ≡ Over
over_is Over e = refl
over_is (Stays now) e = cc

-- the stage before a star, a digit, and a space
abbrev Row : Stage → Type 0
Row stage =
    (is_over (next_stage stage 42) ≡ not (room stage == 0)) × (is_over (next_stage stage 48) ≡ (room stage == 2)) × (is_over (next_stage stage 49) ≡ (room stage == 2))
    × (not (room stage == 0) ≡ true → is_over (next_stage stage 32) ≡ true)

pub row : (stage : Stage) → Row stage
unfolding next_stage in_class in_pgn_class in_value past_backslash
row Start = (refl, refl, refl, λ e. refl)
row MarkBegun = (refl, refl, refl, λ e. refl)
row MarkGrown = (refl, refl, refl, λ e. refl)
row Marked = (refl, refl, refl, λ e. refl)
row Between = (refl, refl, refl, λ e. refl)
row RestOfLine = (refl, refl, refl, λ e. cc)
row InComment = (refl, refl, refl, λ e. cc)
row AfterDollar = (refl, refl, refl, λ e. refl)
row InNumber = (refl, refl, refl, λ e. refl)
row InWord = (refl, refl, refl, λ e. refl)
row InTag = (refl, refl, refl, λ e. cc)
row InName = (refl, refl, refl, λ e. cc)
row AfterName = (refl, refl, refl, λ e. cc)
row InValue = (refl, refl, refl, λ e. cc)
row AfterBackslash = (refl, refl, refl, λ e. cc)
row AfterValue = (refl, refl, refl, λ e. cc)
row TagRead = (refl, refl, refl, λ e. refl)
row Spoilt = (refl, refl, refl, λ e. cc)
row StarRead = (refl, refl, refl, λ e. refl)
row EnterRead = (refl, refl, refl, λ e. refl)
row LeaveRead = (refl, refl, refl, λ e. refl)
row BadRead = (refl, refl, refl, λ e. refl)

pub most_room : (stage : Stage) → not (room stage == 0) ≡ true → (room stage == 1) ≡ false → (room stage == 2) ≡ true
most_room Start e f = refl
most_room MarkBegun e f = refl
most_room MarkGrown e f = refl
most_room Marked e f = refl
most_room Between e f = refl
most_room RestOfLine e f = cc
most_room InComment e f = cc
most_room AfterDollar e f = cc
most_room InNumber e f = cc
most_room InWord e f = cc
most_room InTag e f = cc
most_room InName e f = cc
most_room AfterName e f = cc
most_room InValue e f = cc
most_room AfterBackslash e f = cc
most_room AfterValue e f = cc
most_room TagRead e f = refl
most_room Spoilt e f = cc
most_room StarRead e f = refl
most_room EnterRead e f = refl
most_room LeaveRead e f = refl
most_room BadRead e f = refl

pub some_room : (n : ℕ) → (n == 2) ≡ true → not (n == 0) ≡ true
some_room n e = let is : n ≡ 2 = eqb-true n 2 e in rw is refl

-- a byte with which a word would go on
abbrev lean : ℕ → Bool
lean b = in_pgn_class WordByte b || (b == 36)

digit_by : (d l s : Bool) → d ≡ true → (l || d || s) ≡ true
digit_by true true s e = refl
digit_by true false s e = refl
digit_by false l s e = cc

either : (b c : Bool) → b ≡ true → (b || c) ≡ true
either true c e = refl
either false c e = cc

-- after a byte at which the next piece may not begin with a digit
abbrev Leans : ℕ → Next → Type 0
Leans b (Stays now) = room now ≡ 1 → lean b ≡ true
Leans b Over = ⊤

leans_if : (b : ℕ) (t : Bool) (x y : Next) → Leans b x → Leans b y → Leans b (if t then x else y)
leans_if b true x y h k = h
leans_if b false x y h k = k

leans_digit : (b : ℕ) (t : Bool) → in_class Digit b ≡ t → Leans b (run_on t InNumber)
unfolding in_class in_pgn_class
leans_digit b true e = λ r. either (in_pgn_class WordByte b) (b == 36) (digit_by _ _ _ e)
leans_digit b false e = tt

leans_word : (b : ℕ) (t : Bool) → in_pgn_class WordByte b ≡ t → Leans b (run_on t InWord)
leans_word b true e = λ r. either (in_pgn_class WordByte b) (b == 36) e
leans_word b false e = tt

leans_spoilt : (b : ℕ) → Leans b (spoils b)
leans_spoilt b = leans_if b (in_class InLine b) (Stays Spoilt) Over (λ r. cc) tt

leans_part : (b : ℕ) (stage : Stage) (wanted : ℕ) (next : Stage) → Leans b (Stays stage) → Leans b (Stays next) → Leans b (after_part b stage wanted next)
leans_part b stage wanted next h k = leans_if b (in_class Blank b) (Stays stage) _ h (leans_if b (b == wanted) (Stays next) (spoils b) k (leans_spoilt b))

next_leans : (stage : Stage) (b : ℕ) → Leans b (next_stage stage b)
unfolding next_stage in_value past_backslash
next_leans Start b = leans_if b (b == 239) (Stays MarkBegun) Over (λ r. cc) tt
next_leans MarkBegun b = leans_if b (b == 187) (Stays MarkGrown) Over (λ r. cc) tt
next_leans MarkGrown b = leans_if b (b == 191) (Stays Marked) Over (λ r. cc) tt
next_leans Marked b = tt
next_leans Between b = tt
next_leans RestOfLine b = leans_if b (in_class InLine b) (Stays RestOfLine) Over (λ r. cc) tt
next_leans InComment b = leans_if b (in_pgn_class NotBrace b) (Stays InComment) (Stays Between) (λ r. cc) (λ r. cc)
next_leans AfterDollar b = leans_digit b (in_class Digit b) refl
next_leans InNumber b = leans_digit b (in_class Digit b) refl
next_leans InWord b = leans_word b (in_pgn_class WordByte b) refl
next_leans InTag b = leans_if b (in_class Blank b) (Stays InTag) _ (λ r. cc) (leans_if b (in_pgn_class NameByte b) (Stays InName) (spoils b) (λ r. cc) (leans_spoilt b))
next_leans InName b = leans_if b (in_pgn_class NameByte b) (Stays InName) _ (λ r. cc) (leans_part b AfterName 34 InValue (λ r. cc) (λ r. cc))
next_leans AfterName b = leans_part b AfterName 34 InValue (λ r. cc) (λ r. cc)
next_leans InValue b = leans_if b (b == 34) (Stays AfterValue) _ (λ r. cc) (leans_if b (not (in_class InLine b)) Over _ tt (leans_if b (b == 92) (Stays AfterBackslash) (Stays InValue) (λ r. cc) (λ r. cc)))
next_leans AfterBackslash b = leans_if b ((b == 34) || (b == 92)) (Stays InValue) _ (λ r. cc) (leans_if b (in_class InLine b) (Stays InValue) Over (λ r. cc) tt)
next_leans AfterValue b = leans_part b AfterValue 93 TagRead (λ r. cc) (λ r. cc)
next_leans TagRead b = tt
next_leans Spoilt b = leans_spoilt b
next_leans StarRead b = tt
next_leans EnterRead b = tt
next_leans LeaveRead b = tt
next_leans BadRead b = tt

begun_by : (a c d e f g h i j k : Bool)
    → room (if a then RestOfLine else (if c then Between else (if d then RestOfLine else (if e then InComment else (if f then InTag else (if g then EnterRead else (if h then LeaveRead else (if i then StarRead else (if j then AfterDollar else (if k then InWord else BadRead)))))))))) ≡ 1 → (k || j) ≡ true
begun_by true c d e f g h i j k r = cc
begun_by false true d e f g h i j k r = cc
begun_by false false true e f g h i j k r = cc
begun_by false false false true f g h i j k r = cc
begun_by false false false false true g h i j k r = cc
begun_by false false false false false true h i j k r = cc
begun_by false false false false false false true i j k r = cc
begun_by false false false false false false false true j k r = cc
begun_by false false false false false false false false true true r = refl
begun_by false false false false false false false false true false r = refl
begun_by false false false false false false false false false true r = refl
begun_by false false false false false false false false false false r = cc

begun_leans : (first : Bool) (b : ℕ) → room (begun first b) ≡ 1 → lean b ≡ true
unfolding begun
begun_leans first b r = begun_by (first && (b == 37)) (is_white b) (b == 59) (b == 123) (b == 91) (b == 40) (b == 41) (b == 42) (b == 36) (in_pgn_class WordByte b) r

step_leans : (m : Machine) (b : ℕ) (next : Next) → Leans b next → room (stepped m b next).stage ≡ 1 → lean b ≡ true
unfolding stepped
step_leans m b (Stays now) h r = h r
step_leans m b Over h r = begun_leans m.first b r

-- the last byte of a text
snoc_leans : (a : List ℕ) (b : ℕ) → room (machine (a ++ b ∷ [])).stage ≡ 1 → leans (a ++ b ∷ []) ≡ true
snoc_leans a b r =
    let m : Machine = machine a in
    fold_push (λ before b. in_pgn_class WordByte b || (b == 36)) false a b
    ∙ step_leans m b (next_stage m.stage b) (next_leans m.stage b) (ap (λ (x : Machine). room x.stage) (sym (machine_more a b)) ∙ r)

last_of : (a : List ℕ) (b : ℕ) (bs : List ℕ) → (x : List ℕ) × (c : ℕ) × (a ++ b ∷ bs ≡ x ++ c ∷ [])
last_of a b [] = (a, b, refl)
last_of a b (c ∷ bs) = let l = last_of (a ++ b ∷ []) c bs in (l.0, l.1, sym (append_assoc a (b ∷ []) (c ∷ bs)) ∙ l.2)

pub front_leans : (a : List ℕ) → room (machine a).stage ≡ 1 → leans a ≡ true
unfolding read_from
front_leans [] r = cc
front_leans (b ∷ bs) r =
    let l = last_of [] b bs in
    ap leans l.2 ∙ snoc_leans l.0 l.1 (ap (λ xs. room (machine xs).stage) (sym l.2) ∙ r)
