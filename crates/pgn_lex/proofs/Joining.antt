-- Texts that are joined where a line begins.
use Rattle.std.proofs.Common.{◌≡◌, ◌⊎◌, inl, inr, ℕ, zero, suc, ◌+◌, ◌==◌, Bool, true, false, not, if◌then◌else◌, List, [], ◌∷◌, ◌++◌, Option, Some, None, length, map, refl, sym, ap, ◌∙◌, arith, append-nil}
use Rattle.std.specs.List.{fold}
use Rattle.std.proofs.lemmas.List.{map-append}
use Rattle.cha_list.specs.declared.classes.Class.TheVariants.{InLine}
use Rattle.cha_list.specs.Bytes.{in_class}
use Rattle.pgn_lex.specs.declared.kinds.Token.{Token}
use Rattle.pgn_lex.specs.declared.kinds.Token.TheVariants.{Unclosed}
use Rattle.pgn_lex.specs.declared.kinds.Placed.{Placed}
use Rattle.pgn_lex.specs.declared.stages.Stage.{Stage}
use Rattle.pgn_lex.specs.declared.stages.Stage.TheVariants.{Start, MarkBegun, MarkGrown, Marked, Between, RestOfLine, InComment, AfterDollar, InNumber, InWord, InTag, InName, AfterName, InValue, AfterBackslash, AfterValue, TagRead, Spoilt, StarRead, EnterRead, LeaveRead, BadRead}
use Rattle.pgn_lex.specs.Tokens.{piece, placed, line_after, tokens_after, has_mark, tokens, settled_tokens}
use Rattle.pgn_lex.specs.Lines.{line_feeds, ends_line}
use Rattle.pgn_lex.specs.Stages.{tokens_at, token_at, Machine, at_front, machine}
use Rattle.pgn_lex.proofs.Left.{left_of_piece, gives_at}
use Rattle.pgn_lex.proofs.Feeding.{WellMarked, unmarked, settled_first, ended_tokens, at_length, line_from, well_read, read_more}
use Rattle.pgn_lex.proofs.Following.{is_plain}
use Rattle.pgn_lex.proofs.LineEnds.{is_line_stage, machine_first, plain_first, unmarked_line, line_stage}

-- a token that stands so many bytes and lines further on
abbrev pub moved_token : ℕ → ℕ → Placed → Placed
moved_token n k t = record { token = t.token; offset = n + t.offset; end = n + t.end; line = k + t.line }

placed_moved : (n k at end line : ℕ) (o : Option Token) → placed (n + at) (n + end) (k + line) o ≡ map (moved_token n k) (placed at end line o)
placed_moved n k at end line None = refl
placed_moved n k at end line (Some token) = refl

line_by : (k line : ℕ) (c : Bool) → (if c then k + line + 1 else k + line) ≡ k + (if c then line + 1 else line)
line_by k line true = omega arith
line_by k line false = refl

line_moved : (k line b : ℕ) → line_after (k + line) b ≡ k + line_after line b
unfolding line_after
line_moved k line b = line_by k line (b == 10)

one_further : (n at : ℕ) → n + at + 1 ≡ n + (at + 1)
one_further n at = omega arith

end_further : (n at more : ℕ) → n + at + 1 + more ≡ n + (at + 1 + more)
end_further n at more = omega arith

-- the tokens of bytes that stand further on
pub after_moved : (n k pass at line : ℕ) (first : Bool) (bs : List ℕ) → tokens_after pass (n + at) (k + line) first bs ≡ map (moved_token n k) (tokens_after pass at line first bs)
unfolding tokens_after
after_moved n k pass at line first [] = refl
after_moved n k (suc pass) at line first (b ∷ bs) =
    let first' = not (in_class InLine b) in
    ap (λ x. tokens_after pass x (line_after (k + line) b) first' bs) (one_further n at) ∙ ap (λ x. tokens_after pass (n + (at + 1)) x first' bs) (line_moved k line b)
    ∙ after_moved n k pass (at + 1) (line_after line b) first' bs
after_moved n k zero at line first (b ∷ bs) =
    let first' = not (in_class InLine b) in
    let p = piece first b bs in
    let end = at + 1 + p.more in
    let rest = tokens_after p.more (at + 1) (line_after line b) first' bs in
    ap (λ x. placed (n + at) x (k + line) p.token ++ tokens_after p.more (n + at + 1) (line_after (k + line) b) first' bs) (end_further n at p.more)
    ∙ ap (λ ts. ts ++ tokens_after p.more (n + at + 1) (line_after (k + line) b) first' bs) (placed_moved n k at end line p.token)
    ∙ ap (λ x. map (moved_token n k) (placed at end line p.token) ++ tokens_after p.more x (line_after (k + line) b) first' bs) (one_further n at)
    ∙ ap (λ x. map (moved_token n k) (placed at end line p.token) ++ tokens_after p.more (n + (at + 1)) x first' bs) (line_moved k line b)
    ∙ ap (λ ts. map (moved_token n k) (placed at end line p.token) ++ ts) (after_moved n k p.more (at + 1) (line_after line b) first' bs)
    ∙ sym (map-append (moved_token n k) (placed at end line p.token) rest)

feed_by : (n : ℕ) (c : Bool) → (if c then n + 1 + 1 else n + 1) ≡ (if c then n + 1 else n) + 1
feed_by n true = refl
feed_by n false = refl

next_on : (n b : ℕ) → line_after (n + 1) b ≡ line_after n b + 1
unfolding line_after
next_on n b = feed_by n (b == 10)

-- the line behind a text
feeds_on : (n : ℕ) (bytes : List ℕ) → fold line_after (n + 1) bytes ≡ fold line_after n bytes + 1
feeds_on n [] = refl
feeds_on n (b ∷ bytes) = ap (λ x. fold line_after x bytes) (next_on n b) ∙ feeds_on (line_after n b) bytes

line_there : (bytes : List ℕ) → (machine bytes).line ≡ line_feeds bytes + 1
unfolding line_feeds
line_there bytes = line_from at_front bytes ∙ feeds_on 0 bytes

-- where a text leaves a comment open, its last token says so
abbrev pub LeftOpen : List ℕ → Type 0
LeftOpen a = (front : List Placed) × (t : Placed) × (tokens a ≡ front ++ t ∷ []) × (t.token ≡ Unclosed)

-- the tokens of two texts, joined
abbrev pub Joins : List ℕ → List ℕ → Type 0
Joins a b = tokens (a ++ b) ≡ tokens a ++ map (moved_token (length a) (line_feeds a)) (tokens b)

zero_before : (n : ℕ) → 0 + n ≡ n
zero_before n = omega arith

standing : Token → ℕ → ℕ → ℕ → Placed
standing token offset end line = record { token = token; offset = offset; end = end; line = line }

unmoved : (t : Placed) → moved_token 0 0 t ≡ t
unfolding standing
unmoved t =
    ap (λ x. standing t.token x (0 + t.end) (0 + t.line)) (zero_before t.offset) ∙ ap (λ x. standing t.token t.offset x (0 + t.line)) (zero_before t.end)
    ∙ ap (standing t.token t.offset t.end) (zero_before t.line)

-- of no text
nothing_moved : (ts : List Placed) → map (moved_token 0 0) ts ≡ ts
nothing_moved [] = refl
nothing_moved (t ∷ ts) = ap (λ u. u ∷ map (moved_token 0 0) ts) (unmoved t) ∙ ap (λ us. t ∷ us) (nothing_moved ts)

joins_none : (a b : List ℕ) → length a ≡ 0 → Joins a b
unfolding line_feeds tokens has_mark tokens_after
joins_none [] b e = sym (nothing_moved (tokens b))
joins_none (x ∷ a) b e = absurd (omega (arith, e))

-- where the last piece ended, and nothing is waited for
joins_there : (a b : List ℕ) → ends_line a ≡ true → has_mark b ≡ false → tokens_at (machine a).stage (machine a).start (machine a).at (machine a).start_line (machine a).word (machine a).value ≡ []
    → gives_at (machine a).stage (machine a) b ≡ tokens_after 0 (machine a).at (machine a).line (machine a).first b → Joins a b
joins_there a b e unmarked_b none gives =
    let m : Machine = machine a in
    let n = length a in
    let k = line_feeds a in
    let settled : tokens a ≡ settled_tokens a = ended_tokens a ∙ ap (λ ts. settled_tokens a ++ ts) none ∙ append-nil (settled_tokens a) in
    let zero_on : n ≡ n + 0 = omega arith in
    settled_first a b ∙ ap (λ ts. ts ++ gives_at m.stage m b) (sym settled) ∙ ap (λ ts. tokens a ++ ts) (
    gives ∙ ap (λ x. tokens_after 0 x m.line m.first b) (at_length a ∙ zero_on) ∙ ap (λ x. tokens_after 0 (n + 0) x m.first b) (line_there a)
    ∙ ap (λ f. tokens_after 0 (n + 0) (k + 1) f b) (machine_first a ∙ e) ∙ after_moved n k 0 0 1 true b ∙ ap (map (moved_token n k)) (sym (unmarked b unmarked_b))
    )

joins_by : (a b : List ℕ) (stage : Stage) → (machine a).stage ≡ stage → is_line_stage stage ≡ true → ends_line a ≡ true → has_mark b ≡ false → LeftOpen a ⊎ Joins a b
unfolding gives_at left_of_piece tokens_at token_at
joins_by a b Start s l e f =
    let w : WellMarked (machine a).stage (machine a).at (machine a).line (machine a).first = well_read at_front a (refl, refl, refl) in
    let none = rw s at w in
    inr (joins_none a b (sym (at_length a) ∙ none.0))
joins_by a b Marked s l e f = inr (joins_there a b e f (rw s refl) (rw s refl))
joins_by a b Between s l e f = inr (joins_there a b e f (rw s refl) (rw s refl))
joins_by a b InComment s l e f =
    let m : Machine = machine a in
    inl (settled_tokens a, record { token = Unclosed; offset = m.start; end = m.at; line = m.start_line }, ended_tokens a ∙ ap (λ t. settled_tokens a ++ tokens_at t m.start m.at m.start_line m.word m.value) s, refl)
joins_by a b MarkBegun s l e f = cc
joins_by a b MarkGrown s l e f = cc
joins_by a b RestOfLine s l e f = cc
joins_by a b AfterDollar s l e f = cc
joins_by a b InNumber s l e f = cc
joins_by a b InWord s l e f = cc
joins_by a b InTag s l e f = cc
joins_by a b InName s l e f = cc
joins_by a b AfterName s l e f = cc
joins_by a b InValue s l e f = cc
joins_by a b AfterBackslash s l e f = cc
joins_by a b AfterValue s l e f = cc
joins_by a b TagRead s l e f = cc
joins_by a b Spoilt s l e f = cc
joins_by a b StarRead s l e f = cc
joins_by a b EnterRead s l e f = cc
joins_by a b LeaveRead s l e f = cc
joins_by a b BadRead s l e f = cc

-- a text behind one that ends a line
pub joined_tokens : (a b : List ℕ) → ends_line a ≡ true → (a ≡ []) ⊎ (has_mark b ≡ false) → LeftOpen a ⊎ Joins a b
joined_tokens a b e (inl none) = inr (joins_none a b (ap length none))
joined_tokens a b e (inr f) = joins_by a b (machine a).stage refl (line_stage a e) e f

-- lines behind lines
line_on_none : (a b : List ℕ) → length a ≡ 0 → ends_line b ≡ true → ends_line (a ++ b) ≡ true
line_on_none [] b e g = g
line_on_none (x ∷ a) b e g = absurd (omega (arith, e))

line_on : (a b : List ℕ) → is_plain (machine a).stage ≡ true → ends_line a ≡ true → has_mark b ≡ false → ends_line b ≡ true → ends_line (a ++ b) ≡ true
line_on a b p e f g =
    sym (machine_first (a ++ b)) ∙ ap (λ (m : Machine). m.first) (read_more at_front a b) ∙ plain_first (machine a) b p
    ∙ ap (λ x. fold (λ first c. not (in_class InLine c)) x b) (machine_first a ∙ e) ∙ sym (unmarked_line b f) ∙ g

line_by_stage : (a b : List ℕ) (stage : Stage) → (machine a).stage ≡ stage → is_line_stage stage ≡ true → ends_line a ≡ true → has_mark b ≡ false → ends_line b ≡ true → ends_line (a ++ b) ≡ true
line_by_stage a b Start s l e f g =
    let w : WellMarked (machine a).stage (machine a).at (machine a).line (machine a).first = well_read at_front a (refl, refl, refl) in
    let none = rw s at w in
    line_on_none a b (sym (at_length a) ∙ none.0) g
line_by_stage a b Marked s l e f g = line_on a b (ap is_plain s) e f g
line_by_stage a b Between s l e f g = line_on a b (ap is_plain s) e f g
line_by_stage a b InComment s l e f g = line_on a b (ap is_plain s) e f g
line_by_stage a b MarkBegun s l e f g = cc
line_by_stage a b MarkGrown s l e f g = cc
line_by_stage a b RestOfLine s l e f g = cc
line_by_stage a b AfterDollar s l e f g = cc
line_by_stage a b InNumber s l e f g = cc
line_by_stage a b InWord s l e f g = cc
line_by_stage a b InTag s l e f g = cc
line_by_stage a b InName s l e f g = cc
line_by_stage a b AfterName s l e f g = cc
line_by_stage a b InValue s l e f g = cc
line_by_stage a b AfterBackslash s l e f g = cc
line_by_stage a b AfterValue s l e f g = cc
line_by_stage a b TagRead s l e f g = cc
line_by_stage a b Spoilt s l e f g = cc
line_by_stage a b StarRead s l e f g = cc
line_by_stage a b EnterRead s l e f g = cc
line_by_stage a b LeaveRead s l e f g = cc
line_by_stage a b BadRead s l e f g = cc

pub joined_line : (a b : List ℕ) → ends_line a ≡ true → (a ≡ []) ⊎ (has_mark b ≡ false) → ends_line b ≡ true → ends_line (a ++ b) ≡ true
joined_line a b e (inl none) g = rw none g
joined_line a b e (inr f) g = line_by_stage a b (machine a).stage refl (line_stage a e) e f g
