-- Where a lexer stands behind the end of a line.
use Rattle.std.proofs.Common.{◌≡◌, ◌⊎◌, inl, inr, ℕ, ◌==◌, ◌||◌, Bool, true, false, not, List, [], ◌∷◌, refl, sym, ap, ◌∙◌, subst}
use Rattle.std.specs.List.{fold}
use Rattle.std.proofs.lemmas.Bool.{eqb-true}
use Rattle.cha_list.specs.declared.classes.Class.TheVariants.{InLine}
use Rattle.cha_list.specs.Bytes.{in_class}
use Rattle.pgn_lex.specs.Classes.{in_pgn_class}
use Rattle.pgn_lex.specs.declared.stages.Stage.{Stage}
use Rattle.pgn_lex.specs.declared.stages.Stage.TheVariants.{Start, MarkBegun, MarkGrown, Marked, Between, RestOfLine, InComment, AfterDollar, InNumber, InWord, InTag, InName, AfterName, InValue, AfterBackslash, AfterValue, TagRead, Spoilt, StarRead, EnterRead, LeaveRead, BadRead}
use Rattle.pgn_lex.specs.declared.stages.Next.{Next}
use Rattle.pgn_lex.specs.declared.stages.Next.TheVariants.{Stays, Over}
use Rattle.pgn_lex.specs.Pieces.{is_white}
use Rattle.pgn_lex.specs.Tokens.{has_mark}
use Rattle.pgn_lex.specs.Lines.{past_mark, ends_line}
use Rattle.pgn_lex.specs.Stages.{run_on, begun, next_stage, in_value, past_backslash, begins_line, Machine, at_front, stepped, read_from, machine}
use Rattle.pgn_lex.proofs.Following.{is_plain, FollowsAt, follows}
use Rattle.pgn_lex.proofs.Feeding.{begun_plain, no_mark_begins, no_mark_grows}

-- whether a line begins behind a byte
abbrev behind : Bool → ℕ → Bool
behind first b = not (in_class InLine b)

-- outside the mark at the front, the last byte tells
next_by : (m : Machine) (b : ℕ) (next : Next) → FollowsAt m.stage next m.word m.value b → (is_plain (stepped m b next).stage ≡ true) × ((stepped m b next).first ≡ not (in_class InLine b))
unfolding stepped
next_by m b (Stays now) h = (h.0, h.1)
next_by m b Over h = (begun_plain m.first b, refl)

pub plain_first : (m : Machine) (bytes : List ℕ) → is_plain m.stage ≡ true → (read_from m bytes).first ≡ fold behind m.first bytes
unfolding read_from
plain_first m [] p = refl
plain_first m (b ∷ bytes) p =
    let h = next_by m b (next_stage m.stage b) (follows m.stage m.word m.value b p) in
    plain_first (stepped m b (next_stage m.stage b)) bytes h.0 ∙ ap (λ f. fold behind f bytes) h.1

-- a text without the mark
pub unmarked_line : (bytes : List ℕ) → has_mark bytes ≡ false → ends_line bytes ≡ fold behind true bytes
unfolding ends_line past_mark
unmarked_line bytes e = rw e refl

over_first : (m : Machine) (b : ℕ) (bytes : List ℕ) → (read_from (stepped m b Over) bytes).first ≡ fold behind (not (in_class InLine b)) bytes
unfolding stepped
over_first m b bytes = plain_first (stepped m b Over) bytes (begun_plain m.first b)

third_by : (m : Machine) (d : ℕ) (ds : List ℕ) (t : Bool) → (d == 191) ≡ t → (read_from (stepped m d (run_on t Marked)) ds).first ≡ ends_line (239 ∷ 187 ∷ d ∷ ds)
unfolding stepped begins_line ends_line past_mark has_mark
third_by m d ds true e = rw e (plain_first (stepped m d (Stays Marked)) ds refl)
third_by m d ds false e = rw e (over_first m d ds)

grown_first : (m : Machine) (rest : List ℕ) → m.stage ≡ MarkGrown → m.first ≡ false → (read_from m rest).first ≡ ends_line (239 ∷ 187 ∷ rest)
unfolding read_from next_stage ends_line past_mark has_mark in_class
grown_first m [] e f = f
grown_first m (d ∷ ds) e f = ap (λ s. (read_from (stepped m d (next_stage s d)) ds).first) e ∙ third_by m d ds (d == 191) refl

second_by : (m : Machine) (c : ℕ) (cs : List ℕ) (t : Bool) → (c == 187) ≡ t → (read_from (stepped m c (run_on t MarkGrown)) cs).first ≡ ends_line (239 ∷ c ∷ cs)
unfolding stepped begins_line in_class
second_by m c cs true e =
    let is = eqb-true c 187 e in
    grown_first (stepped m c (Stays MarkGrown)) cs refl (ap (λ x. not (in_class InLine x)) is) ∙ ap (λ x. ends_line (239 ∷ x ∷ cs)) (sym is)
second_by m c cs false e = over_first m c cs ∙ sym (unmarked_line (239 ∷ c ∷ cs) (no_mark_grows c cs e).0)

begun_first : (m : Machine) (rest : List ℕ) → m.stage ≡ MarkBegun → m.first ≡ false → (read_from m rest).first ≡ ends_line (239 ∷ rest)
unfolding read_from next_stage ends_line past_mark has_mark in_class
begun_first m [] e f = f
begun_first m (c ∷ cs) e f = ap (λ s. (read_from (stepped m c (next_stage s c)) cs).first) e ∙ second_by m c cs (c == 187) refl

first_by : (b : ℕ) (bs : List ℕ) (t : Bool) → (b == 239) ≡ t → (read_from (stepped at_front b (run_on t MarkBegun)) bs).first ≡ ends_line (b ∷ bs)
unfolding stepped begins_line in_class
first_by b bs true e =
    let is = eqb-true b 239 e in
    begun_first (stepped at_front b (Stays MarkBegun)) bs refl (ap (λ x. not (in_class InLine x)) is) ∙ ap (λ x. ends_line (x ∷ bs)) (sym is)
first_by b bs false e = over_first at_front b bs ∙ sym (unmarked_line (b ∷ bs) (no_mark_begins b bs e).0)

pub machine_first : (bytes : List ℕ) → (machine bytes).first ≡ ends_line bytes
unfolding read_from next_stage ends_line past_mark has_mark
machine_first [] = refl
machine_first (b ∷ bs) = first_by b bs (b == 239) refl

-- an end of a line ends all but a comment
abbrev pub is_line_stage : Stage → Bool
is_line_stage Start = true
is_line_stage MarkBegun = false
is_line_stage MarkGrown = false
is_line_stage Marked = true
is_line_stage Between = true
is_line_stage RestOfLine = false
is_line_stage InComment = true
is_line_stage AfterDollar = false
is_line_stage InNumber = false
is_line_stage InWord = false
is_line_stage InTag = false
is_line_stage InName = false
is_line_stage AfterName = false
is_line_stage InValue = false
is_line_stage AfterBackslash = false
is_line_stage AfterValue = false
is_line_stage TagRead = false
is_line_stage Spoilt = false
is_line_stage StarRead = false
is_line_stage EnterRead = false
is_line_stage LeaveRead = false
is_line_stage BadRead = false

abbrev is_line_next : Next → Bool
is_line_next (Stays now) = is_line_stage now
is_line_next Over = true

at_end_by : (P : ℕ → Type 0) (b : ℕ) (x y : Bool) → (b == 13) ≡ x → (b == 10) ≡ y → not (x || y) ≡ false → P 13 → P 10 → P b
at_end_by P b true y e f g h i = subst P (sym (eqb-true b 13 e)) h
at_end_by P b false true e f g h i = subst P (sym (eqb-true b 10 f)) i
at_end_by P b false false e f g h i = cc

at_end : (P : ℕ → Type 0) (b : ℕ) → in_class InLine b ≡ false → P 13 → P 10 → P b
unfolding in_class
at_end P b e h i = at_end_by P b (b == 13) (b == 10) refl refl e h i

ended_by : (stage : Stage) → (is_line_next (next_stage stage 13) ≡ true) × (is_line_next (next_stage stage 10) ≡ true)
unfolding next_stage in_value past_backslash in_class in_pgn_class
ended_by Start = (refl, refl)
ended_by MarkBegun = (refl, refl)
ended_by MarkGrown = (refl, refl)
ended_by Marked = (refl, refl)
ended_by Between = (refl, refl)
ended_by RestOfLine = (refl, refl)
ended_by InComment = (refl, refl)
ended_by AfterDollar = (refl, refl)
ended_by InNumber = (refl, refl)
ended_by InWord = (refl, refl)
ended_by InTag = (refl, refl)
ended_by InName = (refl, refl)
ended_by AfterName = (refl, refl)
ended_by InValue = (refl, refl)
ended_by AfterBackslash = (refl, refl)
ended_by AfterValue = (refl, refl)
ended_by TagRead = (refl, refl)
ended_by Spoilt = (refl, refl)
ended_by StarRead = (refl, refl)
ended_by EnterRead = (refl, refl)
ended_by LeaveRead = (refl, refl)
ended_by BadRead = (refl, refl)

ends_all : (stage : Stage) (b : ℕ) → in_class InLine b ≡ false → is_line_next (next_stage stage b) ≡ true
ends_all stage b e = let h = ended_by stage in at_end (λ x. is_line_next (next_stage stage x) ≡ true) b e h.0 h.1

not_true : (x : Bool) → not x ≡ true → x ≡ false
not_true true e = cc
not_true false e = refl

stays_by : (now : Stage) (b : ℕ) → begins_line now b ≡ true → (is_line_stage now ≡ true) ⊎ (in_class InLine b ≡ false)
unfolding begins_line
stays_by Start b e = inl refl
stays_by MarkBegun b e = inr (not_true (in_class InLine b) e)
stays_by MarkGrown b e = inr (not_true (in_class InLine b) e)
stays_by Marked b e = inl refl
stays_by Between b e = inl refl
stays_by RestOfLine b e = inr (not_true (in_class InLine b) e)
stays_by InComment b e = inl refl
stays_by AfterDollar b e = inr (not_true (in_class InLine b) e)
stays_by InNumber b e = inr (not_true (in_class InLine b) e)
stays_by InWord b e = inr (not_true (in_class InLine b) e)
stays_by InTag b e = inr (not_true (in_class InLine b) e)
stays_by InName b e = inr (not_true (in_class InLine b) e)
stays_by AfterName b e = inr (not_true (in_class InLine b) e)
stays_by InValue b e = inr (not_true (in_class InLine b) e)
stays_by AfterBackslash b e = inr (not_true (in_class InLine b) e)
stays_by AfterValue b e = inr (not_true (in_class InLine b) e)
stays_by TagRead b e = inr (not_true (in_class InLine b) e)
stays_by Spoilt b e = inr (not_true (in_class InLine b) e)
stays_by StarRead b e = inr (not_true (in_class InLine b) e)
stays_by EnterRead b e = inr (not_true (in_class InLine b) e)
stays_by LeaveRead b e = inr (not_true (in_class InLine b) e)
stays_by BadRead b e = inr (not_true (in_class InLine b) e)

stays_or : (now : Stage) (b : ℕ) → (is_line_stage now ≡ true) ⊎ (in_class InLine b ≡ false) → (in_class InLine b ≡ false → is_line_stage now ≡ true) → is_line_stage now ≡ true
stays_or now b (inl h) f = h
stays_or now b (inr h) f = f h

begun_both : (first : Bool) → (is_line_stage (begun first 13) ≡ true) × (is_line_stage (begun first 10) ≡ true)
unfolding begun is_white
begun_both true = (refl, refl)
begun_both false = (refl, refl)

line_next : (m : Machine) (b : ℕ) (next : Next) → next ≡ next_stage m.stage b → (stepped m b next).first ≡ true → is_line_stage (stepped m b next).stage ≡ true
unfolding stepped
line_next m b (Stays now) e f = stays_or now b (stays_by now b f) (λ g. ap is_line_next e ∙ ends_all m.stage b g)
line_next m b Over e f = let h = begun_both m.first in at_end (λ x. is_line_stage (begun m.first x) ≡ true) b (not_true (in_class InLine b) f) h.0 h.1

line_read : (m : Machine) (bytes : List ℕ) → (m.first ≡ true → is_line_stage m.stage ≡ true) → (read_from m bytes).first ≡ true → is_line_stage (read_from m bytes).stage ≡ true
unfolding read_from
line_read m [] h = h
line_read m (b ∷ bytes) h = line_read (stepped m b (next_stage m.stage b)) bytes (line_next m b (next_stage m.stage b) refl)

pub line_stage : (bytes : List ℕ) → ends_line bytes ≡ true → is_line_stage (machine bytes).stage ≡ true
line_stage bytes e = line_read at_front bytes (λ f. refl) (machine_first bytes ∙ e)
