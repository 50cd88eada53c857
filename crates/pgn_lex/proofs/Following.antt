-- What a further byte does to the piece that is being read.
use Rattle.std.proofs.Common.{◌≡◌, ℕ, suc, ◌+◌, ◌-◌, nat_lt, ◌==◌, Bool, true, false, not, ◌||◌, if◌then◌else◌, List, [], ◌∷◌, ◌++◌, Option, Some, None, length, take, refl, ap, ◌∙◌, arith, append_assoc, append-nil}
use Rattle.std.specs.List.{prefix_len}
use Rattle.std.proofs.lemmas.Bool.Decides.{nat_tests}
use Rattle.cha_list.specs.declared.classes.Class.TheVariants.{Blank, InLine, Digit}
use Rattle.cha_list.specs.Bytes.{in_class}
use Rattle.pgn_lex.specs.declared.classes.PgnClass.TheVariants.{NotBrace, WordByte, NameByte}
use Rattle.pgn_lex.specs.Classes.{in_pgn_class}
use Rattle.pgn_lex.specs.declared.kinds.Token.TheVariants.{Unclosed, BadTag, Tag}
use Rattle.pgn_lex.specs.declared.stages.Stage.{Stage}
use Rattle.pgn_lex.specs.declared.stages.Stage.TheVariants.{Start, MarkBegun, MarkGrown, Marked, Between, RestOfLine, InComment, AfterDollar, InNumber, InWord, InTag, InName, AfterName, InValue, AfterBackslash, AfterValue, TagRead, Spoilt, StarRead, EnterRead, LeaveRead, BadRead}
use Rattle.pgn_lex.specs.declared.stages.Next.{Next}
use Rattle.pgn_lex.specs.declared.stages.Next.TheVariants.{Stays, Over}
use Rattle.pgn_lex.specs.Pieces.{silent_piece, spoken_piece, line_piece, comment_piece, annotation_piece, word_token}
use Rattle.pgn_lex.specs.Tags.{Read, onto, past_byte, name_at, value_after, tag_at, tag_or_line}
use Rattle.pgn_lex.specs.Values.{onto_all}
use Rattle.pgn_lex.proofs.TagStages.{tag_valued, tag_in_value, tag_named, tag_in_name}
use Rattle.pgn_lex.specs.Stages.{run_on, spoils, after_part, in_value, past_backslash, next_stage, token_at, word_after, value_from, grown_value, begins_line}
use Rattle.pgn_lex.proofs.Left.{left_of_piece, one_more}
use Rattle.pgn_lex.proofs.Keeping.{onto_one, onto_two}
use Rattle.pgn_lex.proofs.Runs.{run_grows, run_ends, in_line}
use Rattle.pgn_lex.proofs.TagSteps.{valued_blank, valued_closes, valued_breaks, value_goes_on, value_closes, value_breaks, named_blank, named_opens, named_breaks, name_goes_on, name_ends, opened_blank, opened_name, opened_breaks, tag_falls}
use Rattle.pgn_lex.proofs.TagRests.{valued_le, in_value_le, named_le, in_name_le, opened_le}

-- a stage in which no byte of the mark at the front is waited for
abbrev pub is_plain : Stage → Bool
is_plain Start = false
is_plain MarkBegun = false
is_plain MarkGrown = false
is_plain Marked = true
is_plain Between = true
is_plain RestOfLine = true
is_plain InComment = true
is_plain AfterDollar = true
is_plain InNumber = true
is_plain InWord = true
is_plain InTag = true
is_plain InName = true
is_plain AfterName = true
is_plain InValue = true
is_plain AfterBackslash = true
is_plain AfterValue = true
is_plain TagRead = true
is_plain Spoilt = true
is_plain StarRead = true
is_plain EnterRead = true
is_plain LeaveRead = true
is_plain BadRead = true

-- what a byte does to the piece: it belongs to it, or the piece ended before it
abbrev pub FollowsAt : Stage → Next → List ℕ → List ℕ → ℕ → Type 0
FollowsAt stage (Stays now) word value b =
    (is_plain now ≡ true) × (begins_line now b ≡ not (in_class InLine b))
    × ((rest : List ℕ) → left_of_piece stage word value (b ∷ rest) ≡ one_more (left_of_piece now (word_after stage now b word) (grown_value stage now b value) rest))
FollowsAt stage Over word value b = (rest : List ℕ) → left_of_piece stage word value (b ∷ rest) ≡ record { more = 0; token = token_at stage word value }

line_follows : (word value : List ℕ) (b : ℕ) (t : Bool) → in_class InLine b ≡ t → FollowsAt RestOfLine (run_on t RestOfLine) word value b
unfolding left_of_piece line_piece token_at begins_line
line_follows word value b true e = (refl, refl, λ rest. rw (run_grows (in_class InLine) b rest e) refl)
line_follows word value b false e = λ rest. rw (run_ends (in_class InLine) b rest e) refl

same_test : (n m : ℕ) → (suc n == suc m) ≡ (n == m)
same_test n m = grind (arith, nat_tests)

comment_case : (v : Bool) (n : ℕ) → (if v then spoken_piece Unclosed (suc n) else silent_piece (suc n + 1)) ≡ one_more (if v then spoken_piece Unclosed n else silent_piece (n + 1))
comment_case true n = refl
comment_case false n = let e : suc n + 1 ≡ suc (n + 1) = omega arith in rw e refl

not_all : (n : ℕ) → (0 == suc n) ≡ false
not_all n = grind (arith, nat_tests)

comment_follows : (word value : List ℕ) (b : ℕ) (t : Bool) → in_pgn_class NotBrace b ≡ t → FollowsAt InComment (if t then Stays InComment else Stays Between) word value b
unfolding left_of_piece comment_piece token_at begins_line
comment_follows word value b true e = (refl, refl, λ rest. rw (run_grows (in_pgn_class NotBrace) b rest e, same_test (prefix_len (in_pgn_class NotBrace) rest) (length rest)) (comment_case (prefix_len (in_pgn_class NotBrace) rest == length rest) (prefix_len (in_pgn_class NotBrace) rest)))
comment_follows word value b false e = (refl, refl, λ rest. rw (run_ends (in_pgn_class NotBrace) b rest e, not_all (length rest)) refl)

some_digits : (n : ℕ) → (suc n == 0) ≡ false
some_digits n = grind (arith, nat_tests)

dollar_follows : (word value : List ℕ) (b : ℕ) (t : Bool) → in_class Digit b ≡ t → FollowsAt AfterDollar (run_on t InNumber) word value b
unfolding left_of_piece annotation_piece token_at begins_line
dollar_follows word value b true e = (refl, refl, λ rest. rw (run_grows (in_class Digit) b rest e, some_digits (prefix_len (in_class Digit) rest)) refl)
dollar_follows word value b false e = λ rest. rw (run_ends (in_class Digit) b rest e) refl

number_follows : (word value : List ℕ) (b : ℕ) (t : Bool) → in_class Digit b ≡ t → FollowsAt InNumber (run_on t InNumber) word value b
unfolding left_of_piece token_at begins_line
number_follows word value b true e = (refl, refl, λ rest. rw (run_grows (in_class Digit) b rest e) refl)
number_follows word value b false e = λ rest. rw (run_ends (in_class Digit) b rest e) refl

word_follows : (word value : List ℕ) (b : ℕ) (t : Bool) → in_pgn_class WordByte b ≡ t → FollowsAt InWord (run_on t InWord) word value b
unfolding left_of_piece token_at begins_line word_after
word_follows word value b true e = (refl, refl, λ rest. rw (run_grows (in_pgn_class WordByte) b rest e, append_assoc word (b ∷ []) (take (prefix_len (in_pgn_class WordByte) rest) rest)) refl)
word_follows word value b false e = λ rest. rw (run_ends (in_pgn_class WordByte) b rest e, append-nil word) refl

spoilt_follows : (word value : List ℕ) (b : ℕ) (t : Bool) → in_class InLine b ≡ t → FollowsAt Spoilt (run_on t Spoilt) word value b
unfolding left_of_piece token_at begins_line
spoilt_follows word value b true e = (refl, refl, λ rest. rw (run_grows (in_class InLine) b rest e) refl)
spoilt_follows word value b false e = λ rest. rw (run_ends (in_class InLine) b rest e) refl

-- blanks, quotes and the bytes of names stand in a line
blank_in_line : (b : ℕ) → in_class Blank b ≡ true → in_class InLine b ≡ true
unfolding in_class
blank_in_line b e = in_line (in_class Blank) b e refl refl

name_in_line : (b : ℕ) → in_pgn_class NameByte b ≡ true → in_class InLine b ≡ true
unfolding in_pgn_class
name_in_line b e = in_line (in_pgn_class NameByte) b e refl refl

quote_in_line : (b : ℕ) → (b == 34) ≡ true → in_class InLine b ≡ true
quote_in_line b e = in_line (λ x. x == 34) b e refl refl

-- a tag pair that is broken
spoils_by : (stage : Stage) (word value : List ℕ) (b : ℕ) (t : Bool) → in_class InLine b ≡ t → ((rest : List ℕ) → left_of_piece stage word value (b ∷ rest) ≡ tag_or_line (b ∷ rest) None)
    → token_at stage word value ≡ Some BadTag → FollowsAt stage (run_on t Spoilt) word value b
unfolding left_of_piece begins_line
spoils_by stage word value b true e h k = (refl, refl, λ rest. h rest ∙ ap (spoken_piece BadTag) (run_grows (in_class InLine) b rest e))
spoils_by stage word value b false e h k = λ rest. h rest ∙ (rw (run_ends (in_class InLine) b rest e, k) refl)

-- between the parts of a tag pair
part_follows : (stage blank wanted_stage : Stage) (wanted : ℕ) (word value : List ℕ) (b : ℕ) (t u : Bool) → in_class Blank b ≡ t → (b == wanted) ≡ u
    → (in_class Blank b ≡ true → FollowsAt stage (Stays blank) word value b)
    → (in_class Blank b ≡ false → (b == wanted) ≡ true → FollowsAt stage (Stays wanted_stage) word value b)
    → (in_class Blank b ≡ false → (b == wanted) ≡ false → (rest : List ℕ) → left_of_piece stage word value (b ∷ rest) ≡ tag_or_line (b ∷ rest) None)
    → token_at stage word value ≡ Some BadTag
    → FollowsAt stage (if t then Stays blank else (if u then Stays wanted_stage else spoils b)) word value b
part_follows stage blank wanted_stage wanted word value b true u e f onto wants breaks k = onto e
part_follows stage blank wanted_stage wanted word value b false true e f onto wants breaks k = wants e f
part_follows stage blank wanted_stage wanted word value b false false e f onto wants breaks k = spoils_by stage word value b (in_class InLine b) refl (breaks e f) k

valued_follows : (word value : List ℕ) (b : ℕ) → FollowsAt AfterValue (after_part b AfterValue 93 TagRead) word value b
unfolding left_of_piece token_at begins_line word_after grown_value value_from
valued_follows word value b =
    part_follows AfterValue AfterValue TagRead 93 word value b (in_class Blank b) (b == 93) refl refl
    (λ e. (refl, refl, λ rest. ap (tag_or_line (b ∷ rest)) (valued_blank word value b rest e) ∙ tag_falls b rest (tag_valued word value rest) (blank_in_line b e) (valued_le word value rest)))
    (λ e f. (refl, refl, λ rest. ap (tag_or_line (b ∷ rest)) (valued_closes word value b rest e f) ∙ closed b rest))
    (λ e f rest. ap (tag_or_line (b ∷ rest)) (valued_breaks word value b rest e f)) refl
  where
    one_byte : (n : ℕ) → suc n - n ≡ 1
    one_byte n = omega arith

    closed : (b : ℕ) (rest : List ℕ) → tag_or_line (b ∷ rest) (Some (record { name = word; value = value; rest = rest })) ≡ one_more (spoken_piece (Tag (take 255 word) (take 4096 value) (nat_lt 4096 (length value))) 0)
    closed b rest = rw (one_byte (length rest)) refl

named_follows : (word value : List ℕ) (b : ℕ) → FollowsAt AfterName (after_part b AfterName 34 InValue) word value b
unfolding left_of_piece token_at begins_line word_after grown_value value_from
named_follows word value b =
    part_follows AfterName AfterName InValue 34 word value b (in_class Blank b) (b == 34) refl refl
    (λ e. (refl, refl, λ rest. ap (tag_or_line (b ∷ rest)) (named_blank word b rest e) ∙ tag_falls b rest (tag_named word rest) (blank_in_line b e) (named_le word rest)))
    (λ e f. (refl, refl, λ rest. ap (tag_or_line (b ∷ rest)) (named_opens word b rest e f) ∙ tag_falls b rest (tag_in_value false word [] rest) (quote_in_line b f) (in_value_le false word [] rest)))
    (λ e f rest. ap (tag_or_line (b ∷ rest)) (named_breaks word b rest e f)) refl

name_by : (word value : List ℕ) (b : ℕ) (t : Bool) → in_pgn_class NameByte b ≡ t → FollowsAt InName (if t then Stays InName else after_part b AfterName 34 InValue) word value b
unfolding left_of_piece token_at begins_line word_after grown_value value_from
name_by word value b true e =
    (refl, refl, λ rest. ap (tag_or_line (b ∷ rest)) (name_goes_on word b rest e) ∙ tag_falls b rest (tag_in_name (word ++ b ∷ []) rest) (name_in_line b e) (in_name_le (word ++ b ∷ []) rest))
name_by word value b false e =
    part_follows InName AfterName InValue 34 word value b (in_class Blank b) (b == 34) refl refl
    (λ f. (refl, refl, λ rest. ap (tag_or_line (b ∷ rest)) (name_ends word b rest e ∙ named_blank word b rest f) ∙ tag_falls b rest (tag_named word rest) (blank_in_line b f) (named_le word rest)))
    (λ f g. (refl, refl, λ rest. ap (tag_or_line (b ∷ rest)) (name_ends word b rest e ∙ named_opens word b rest f g) ∙ tag_falls b rest (tag_in_value false word [] rest) (quote_in_line b g) (in_value_le false word [] rest)))
    (λ f g rest. ap (tag_or_line (b ∷ rest)) (name_ends word b rest e ∙ named_breaks word b rest f g)) refl

tag_by : (word value : List ℕ) (b : ℕ) (t u : Bool) → in_class Blank b ≡ t → in_pgn_class NameByte b ≡ u → FollowsAt InTag (if t then Stays InTag else (if u then Stays InName else spoils b)) word value b
unfolding left_of_piece token_at begins_line word_after grown_value value_from
tag_by word value b true u e f =
    (refl, refl, λ rest. ap (tag_or_line (b ∷ rest)) (opened_blank b rest e) ∙ tag_falls b rest (tag_at rest) (blank_in_line b e) (opened_le rest))
tag_by word value b false true e f =
    (refl, refl, λ rest. ap (tag_or_line (b ∷ rest)) (opened_name b rest e f) ∙ tag_falls b rest (tag_in_name (b ∷ []) rest) (name_in_line b f) (in_name_le (b ∷ []) rest))
tag_by word value b false false e f =
    spoils_by InTag word value b (in_class InLine b) refl (λ rest. ap (tag_or_line (b ∷ rest)) (opened_breaks b rest e f)) refl

-- within a value
closes_value : (b : ℕ) (bs : List ℕ) → (b == 34) ≡ true → value_after false (b ∷ bs) ≡ Some (record { text = []; rest = bs })
unfolding value_after
closes_value b bs e = rw e refl

breaks_value : (b : ℕ) (bs : List ℕ) → (b == 34) ≡ false → in_class InLine b ≡ false → value_after false (b ∷ bs) ≡ None
unfolding value_after
breaks_value b bs e f = rw (e, f) refl

none_added : (o : Option Read) → o ≡ onto_all [] o
none_added None = refl
none_added (Some r) = refl

begins_escape : (b : ℕ) (bs : List ℕ) → (b == 34) ≡ false → in_class InLine b ≡ true → (b == 92) ≡ true → value_after false (b ∷ bs) ≡ onto_all [] (value_after true bs)
unfolding value_after
begins_escape b bs e f g = rw (e, f, g) (none_added (value_after true bs))

grows_value : (b : ℕ) (bs : List ℕ) → (b == 34) ≡ false → in_class InLine b ≡ true → (b == 92) ≡ false → value_after false (b ∷ bs) ≡ onto_all (b ∷ []) (value_after false bs)
unfolding value_after
grows_value b bs e f g = rw (e, f, g) (onto_one b (value_after false bs))

ends_escape : (b : ℕ) (bs : List ℕ) → ((b == 34) || (b == 92)) ≡ true → value_after true (b ∷ bs) ≡ onto_all (b ∷ []) (value_after false bs)
unfolding value_after
ends_escape b bs e = rw e (onto_one b (value_after false bs))

keeps_backslash : (b : ℕ) (bs : List ℕ) → ((b == 34) || (b == 92)) ≡ false → in_class InLine b ≡ true → value_after true (b ∷ bs) ≡ onto_all (92 ∷ b ∷ []) (value_after false bs)
unfolding value_after
keeps_backslash b bs e f = rw (e, f) (onto_two 92 b (value_after false bs))

breaks_escape : (b : ℕ) (bs : List ℕ) → ((b == 34) || (b == 92)) ≡ false → in_class InLine b ≡ false → value_after true (b ∷ bs) ≡ None
unfolding value_after
breaks_escape b bs e f = rw (e, f) refl

-- a value that its line ends
cut_value : (stage : Stage) (word value : List ℕ) (b : ℕ) → in_class InLine b ≡ false → ((rest : List ℕ) → left_of_piece stage word value (b ∷ rest) ≡ tag_or_line (b ∷ rest) None)
    → token_at stage word value ≡ Some BadTag → FollowsAt stage Over word value b
cut_value stage word value b e h k = λ rest. h rest ∙ (rw (run_ends (in_class InLine) b rest e, k) refl)

value_by : (word value : List ℕ) (b : ℕ) (t u v : Bool) → (b == 34) ≡ t → in_class InLine b ≡ u → (b == 92) ≡ v
    → FollowsAt InValue (if t then Stays AfterValue else (if not u then Over else (if v then Stays AfterBackslash else Stays InValue))) word value b
unfolding left_of_piece token_at begins_line word_after grown_value value_from
value_by word value b true u v e f g =
    (refl, refl, λ rest. ap (tag_or_line (b ∷ rest)) (value_closes false word value b rest (closes_value b rest e)) ∙ tag_falls b rest (tag_valued word value rest) (quote_in_line b e) (valued_le word value rest))
value_by word value b false false v e f g =
    cut_value InValue word value b f (λ rest. ap (tag_or_line (b ∷ rest)) (value_breaks false word value b rest (breaks_value b rest e f))) refl
value_by word value b false true true e f g =
    (refl, refl, λ rest. ap (tag_or_line (b ∷ rest)) (value_goes_on false true word value [] b rest (begins_escape b rest e f g) ∙ ap (λ x. tag_in_value true word x rest) (append-nil value)) ∙ tag_falls b rest (tag_in_value true word value rest) f (in_value_le true word value rest))
value_by word value b false true false e f g =
    (refl, refl, λ rest. ap (tag_or_line (b ∷ rest)) (value_goes_on false false word value (b ∷ []) b rest (grows_value b rest e f g)) ∙ tag_falls b rest (tag_in_value false word (value ++ b ∷ []) rest) f (in_value_le false word (value ++ b ∷ []) rest))

escaped_in_line : (b : ℕ) → ((b == 34) || (b == 92)) ≡ true → in_class InLine b ≡ true
escaped_in_line b e = in_line (λ x. (x == 34) || (x == 92)) b e refl refl

grown : (word value : List ℕ) (b : ℕ) → ((b == 34) || (b == 92)) ≡ true → (rest : List ℕ) → tag_in_value false word (value ++ b ∷ []) rest ≡ tag_in_value false word (grown_value AfterBackslash InValue b value) rest
unfolding grown_value value_from
grown word value b e rest = rw e refl

kept : (word value : List ℕ) (b : ℕ) → ((b == 34) || (b == 92)) ≡ false → (rest : List ℕ) → tag_in_value false word (value ++ 92 ∷ b ∷ []) rest ≡ tag_in_value false word (grown_value AfterBackslash InValue b value) rest
unfolding grown_value value_from
kept word value b e rest = rw e refl

escape_by : (word value : List ℕ) (b : ℕ) (t u : Bool) → ((b == 34) || (b == 92)) ≡ t → in_class InLine b ≡ u → FollowsAt AfterBackslash (if t then Stays InValue else run_on u InValue) word value b
unfolding left_of_piece token_at begins_line word_after grown_value value_from
escape_by word value b true u e f =
    (refl, refl, λ rest. ap (tag_or_line (b ∷ rest)) (value_goes_on true false word value (b ∷ []) b rest (ends_escape b rest e) ∙ grown word value b e rest) ∙ tag_falls b rest (tag_in_value false word (grown_value AfterBackslash InValue b value) rest) (escaped_in_line b e) (in_value_le false word (grown_value AfterBackslash InValue b value) rest))
escape_by word value b false true e f =
    (refl, refl, λ rest. ap (tag_or_line (b ∷ rest)) (value_goes_on true false word value (92 ∷ b ∷ []) b rest (keeps_backslash b rest e f) ∙ kept word value b e rest) ∙ tag_falls b rest (tag_in_value false word (grown_value AfterBackslash InValue b value) rest) f (in_value_le false word (grown_value AfterBackslash InValue b value) rest))
escape_by word value b false false e f =
    cut_value AfterBackslash word value b f (λ rest. ap (tag_or_line (b ∷ rest)) (value_breaks true word value b rest (breaks_escape b rest e f))) refl

-- every stage
pub follows : (stage : Stage) (word value : List ℕ) (b : ℕ) → is_plain stage ≡ true → FollowsAt stage (next_stage stage b) word value b
unfolding next_stage in_value past_backslash left_of_piece token_at
follows Start word value b p = cc
follows MarkBegun word value b p = cc
follows MarkGrown word value b p = cc
follows Marked word value b p = λ rest. refl
follows Between word value b p = λ rest. refl
follows RestOfLine word value b p = line_follows word value b (in_class InLine b) refl
follows InComment word value b p = comment_follows word value b (in_pgn_class NotBrace b) refl
follows AfterDollar word value b p = dollar_follows word value b (in_class Digit b) refl
follows InNumber word value b p = number_follows word value b (in_class Digit b) refl
follows InWord word value b p = word_follows word value b (in_pgn_class WordByte b) refl
follows InTag word value b p = tag_by word value b (in_class Blank b) (in_pgn_class NameByte b) refl refl
follows InName word value b p = name_by word value b (in_pgn_class NameByte b) refl
follows AfterName word value b p = named_follows word value b
follows InValue word value b p = value_by word value b (b == 34) (in_class InLine b) (b == 92) refl refl refl
follows AfterBackslash word value b p = escape_by word value b ((b == 34) || (b == 92)) (in_class InLine b) refl refl
follows AfterValue word value b p = valued_follows word value b
follows TagRead word value b p = λ rest. refl
follows Spoilt word value b p = spoilt_follows word value b (in_class InLine b) refl
follows StarRead word value b p = λ rest. refl
follows EnterRead word value b p = λ rest. refl
follows LeaveRead word value b p = λ rest. refl
follows BadRead word value b p = λ rest. refl

-- a piece that nothing follows
pub ends_with : (stage : Stage) (word value : List ℕ) → is_plain stage ≡ true → (left_of_piece stage word value []).token ≡ token_at stage word value
unfolding left_of_piece token_at line_piece comment_piece annotation_piece tag_at name_at tag_in_name tag_named tag_in_value tag_valued value_after past_byte
ends_with Start word value p = cc
ends_with MarkBegun word value p = cc
ends_with MarkGrown word value p = cc
ends_with Marked word value p = refl
ends_with Between word value p = refl
ends_with RestOfLine word value p = refl
ends_with InComment word value p = refl
ends_with AfterDollar word value p = refl
ends_with InNumber word value p = refl
ends_with InWord word value p = ap (λ x. word_token (take 255 x)) (append-nil word)
ends_with InTag word value p = refl
ends_with InName word value p = refl
ends_with AfterName word value p = refl
ends_with InValue word value p = refl
ends_with AfterBackslash word value p = refl
ends_with AfterValue word value p = refl
ends_with TagRead word value p = refl
ends_with Spoilt word value p = refl
ends_with StarRead word value p = refl
ends_with EnterRead word value p = refl
ends_with LeaveRead word value p = refl
ends_with BadRead word value p = refl

-- it ends there
pub ends_there : (stage : Stage) (word value : List ℕ) → is_plain stage ≡ true → (left_of_piece stage word value []).more ≡ 0
unfolding left_of_piece token_at line_piece comment_piece annotation_piece tag_at name_at tag_in_name tag_named tag_in_value tag_valued value_after past_byte
ends_there Start word value p = cc
ends_there MarkBegun word value p = cc
ends_there MarkGrown word value p = cc
ends_there Marked word value p = refl
ends_there Between word value p = refl
ends_there RestOfLine word value p = refl
ends_there InComment word value p = refl
ends_there AfterDollar word value p = refl
ends_there InNumber word value p = refl
ends_there InWord word value p = refl
ends_there InTag word value p = refl
ends_there InName word value p = refl
ends_there AfterName word value p = refl
ends_there InValue word value p = refl
ends_there AfterBackslash word value p = refl
ends_there AfterValue word value p = refl
ends_there TagRead word value p = refl
ends_there Spoilt word value p = refl
ends_there StarRead word value p = refl
ends_there EnterRead word value p = refl
ends_there LeaveRead word value p = refl
ends_there BadRead word value p = refl
