-- Where a token begins, the piece before it has ended.
use Rattle.std.proofs.Common.{◌≡◌, ℕ, ◌+◌, ◌<◌, ◌≤◌, ◌==◌, Bool, true, false, List, [], ◌∷◌, ◌++◌, Option, Some, None, length, refl, sym, ap, ◌∙◌, subst, arith, append_assoc, append-nil}
use Rattle.std.specs.List.{All}
use Rattle.std.proofs.lemmas.List.Elements.{All-cons, All-head, All-tail, All-append}
use Rattle.pgn_lex.specs.declared.kinds.Token.{Token}
use Rattle.pgn_lex.specs.declared.kinds.Placed.{Placed}
use Rattle.pgn_lex.specs.declared.pieces.Piece.{Piece}
use Rattle.pgn_lex.specs.declared.stages.Stage.{Stage}
use Rattle.pgn_lex.specs.declared.stages.Stage.TheVariants.{Start, MarkBegun, MarkGrown, Marked, Between, RestOfLine, InComment, AfterDollar, InNumber, InWord, InTag, InName, AfterName, InValue, AfterBackslash, AfterValue, TagRead, Spoilt, StarRead, EnterRead, LeaveRead, BadRead}
use Rattle.pgn_lex.specs.declared.stages.Next.{Next}
use Rattle.pgn_lex.specs.declared.stages.Next.TheVariants.{Stays, Over}
use Rattle.pgn_lex.specs.Tokens.{placed, tokens_after, tokens, settled_tokens}
use Rattle.pgn_lex.specs.Stages.{run_on, next_stage, tokens_at, Machine, stepped, at_front, read_from, machine}
use Rattle.pgn_lex.proofs.Left.{left_of_piece, gives_at}
use Rattle.pgn_lex.proofs.Following.{is_plain, FollowsAt, follows}
use Rattle.pgn_lex.proofs.Feeding.{said_at, gives_plain, settled_first, ended_tokens, at_length, machine_more, settled_more}
use Rattle.pgn_lex.proofs.InOrder.{places_inside}
use Rattle.pgn_results.proofs.Standing.{From, after_from, one_of_all}

-- none of these stands at a place
abbrev pub Off : ℕ → List Placed → Type 0
Off n ts = All (λ (t : Placed). t.offset ≡ n → ⊥) ts

nothing_off : (n : ℕ) → Off n []
nothing_off n k d inside = absurd (omega arith)

placed_off : (n at end line : ℕ) (o : Option Token) → at < n → Off n (placed at end line o)
placed_off n at end line None h = nothing_off n
placed_off n at end line (Some token) h =
    All-cons (λ (t : Placed). t.offset ≡ n → ⊥) (record { token = token; offset = at; end = end; line = line }) [] (λ e. omega (arith, e)) (nothing_off n)

from_off : (n : ℕ) (ts : List Placed) → From (n + 1) ts → Off n ts
from_off n ts h k d inside = λ e. let x = h k d inside in omega (arith, e)

-- tokens that stand before
abbrev pub Before : ℕ → List Placed → Type 0
Before n ts = All (λ (t : Placed). t.offset < n) ts

pub before_off : (n : ℕ) (ts : List Placed) → Before n ts → Off n ts
before_off n ts h k d inside = λ e. let x = h k d inside in omega (arith, e)

pub front_of : (P : Placed → Type 0) (us vs : List Placed) → All P (us ++ vs) → All P us
front_of P [] vs h = λ k d inside. absurd (omega arith)
front_of P (u ∷ us) vs h = All-cons P u us (All-head P u (us ++ vs) h) (front_of P us vs (All-tail P u (us ++ vs) h))

pub settled_before : (a : List ℕ) → Before (length a) (settled_tokens a)
settled_before a =
    let m : Machine = machine a in
    front_of (λ (t : Placed). t.offset < length a) (settled_tokens a) (tokens_at m.stage m.start m.at m.start_line m.word m.value)
    (subst (Before (length a)) (ended_tokens a) (places_inside a))

-- a piece begins before its second byte
stepped_low : (m : Machine) (b : ℕ) (next : Next) → m.start ≤ m.at → (stepped m b next).start ≤ (stepped m b next).at
unfolding stepped
stepped_low m b (Stays now) h = omega arith
stepped_low m b Over h = omega arith

stepped_strict : (m : Machine) (b : ℕ) (next : Next) → m.start ≤ m.at → (stepped m b next).start < (stepped m b next).at
unfolding stepped
stepped_strict m b (Stays now) h = omega arith
stepped_strict m b Over h = omega arith

read_strict : (m : Machine) (b : ℕ) (bs : List ℕ) → m.start ≤ m.at → (read_from m (b ∷ bs)).start < (read_from m (b ∷ bs)).at
unfolding read_from
read_strict m b [] h = stepped_strict m b (next_stage m.stage b) h
read_strict m b (c ∷ bs) h = read_strict (stepped m b (next_stage m.stage b)) c bs (stepped_low m b (next_stage m.stage b) h)

strict : (a : List ℕ) → is_plain (machine a).stage ≡ true → (machine a).start < (machine a).at
unfolding read_from
strict [] p = cc
strict (x ∷ xs) p = read_strict at_front x xs (omega arith)

-- no byte of the mark at the front is waited for
mark_over : (stage : Stage) (b : ℕ) → is_plain stage ≡ false → ((b == 239) ≡ false) × ((b == 187) ≡ false) × ((b == 191) ≡ false) → next_stage stage b ≡ Over
unfolding next_stage
mark_over Start b p u = ap (λ c. run_on c MarkBegun) u.0
mark_over MarkBegun b p u = ap (λ c. run_on c MarkGrown) u.1
mark_over MarkGrown b p u = ap (λ c. run_on c Marked) u.2
mark_over Marked b p u = cc
mark_over Between b p u = cc
mark_over RestOfLine b p u = cc
mark_over InComment b p u = cc
mark_over AfterDollar b p u = cc
mark_over InNumber b p u = cc
mark_over InWord b p u = cc
mark_over InTag b p u = cc
mark_over InName b p u = cc
mark_over AfterName b p u = cc
mark_over InValue b p u = cc
mark_over AfterBackslash b p u = cc
mark_over AfterValue b p u = cc
mark_over TagRead b p u = cc
mark_over Spoilt b p u = cc
mark_over StarRead b p u = cc
mark_over EnterRead b p u = cc
mark_over LeaveRead b p u = cc
mark_over BadRead b p u = cc

-- a piece that goes on has no token behind its first byte
going_on : (a : List ℕ) (b : ℕ) (bs : List ℕ) (now : Stage) → is_plain (machine a).stage ≡ true → next_stage (machine a).stage b ≡ Stays now → is_plain now ≡ true → Off (length a) (tokens (a ++ b ∷ bs))
unfolding stepped said_at
going_on a b bs now p e q =
    let m : Machine = machine a in
    let n = length a in
    let m' : Machine = stepped m b (Stays now) in
    let left : Piece = left_of_piece now m'.word m'.value bs in
    let more : machine (a ++ b ∷ []) ≡ m' = machine_more a b ∙ ap (stepped m b) e in
    let said : settled_tokens (a ++ b ∷ []) ≡ settled_tokens a = settled_more a b ∙ ap (λ x. settled_tokens a ++ said_at m x) e ∙ append-nil (settled_tokens a) in
    let whole : tokens (a ++ b ∷ bs) ≡ settled_tokens a ++ (placed m'.start (m'.at + left.more) m'.start_line left.token ++ tokens_after left.more (m.at + 1) m'.line m'.first bs) =
    ap tokens (sym (append_assoc a (b ∷ []) bs)) ∙ settled_first (a ++ b ∷ []) bs ∙ ap (λ ts. ts ++ gives_at (machine (a ++ b ∷ [])).stage (machine (a ++ b ∷ [])) bs) said
    ∙ ap (λ (x : Machine). settled_tokens a ++ gives_at x.stage x bs) more ∙ ap (λ ts. settled_tokens a ++ ts) (gives_plain now m' bs q) in
    let at_is = at_length a in
    subst (Off n) (sym whole) (
    All-append (λ (t : Placed). t.offset ≡ n → ⊥) (settled_tokens a) _ (before_off n (settled_tokens a) (settled_before a))
    (All-append (λ (t : Placed). t.offset ≡ n → ⊥) (placed m.start (m'.at + left.more) m'.start_line left.token) _
    (placed_off n m.start (m'.at + left.more) m'.start_line left.token (omega (arith, strict a p, at_is)))
    (from_off n _ (subst (λ k. From (k + 1) (tokens_after left.more (m.at + 1) m'.line m'.first bs)) at_is (after_from left.more (m.at + 1) m'.line m'.first bs))))
    )

plain_over : (next : Next) (a : List ℕ) (b : ℕ) (bs : List ℕ) (us : List Placed) (t : Placed) (vs : List Placed) → is_plain (machine a).stage ≡ true → next_stage (machine a).stage b ≡ next
    → tokens (a ++ b ∷ bs) ≡ us ++ t ∷ vs → t.offset ≡ length a → next ≡ Over
plain_over Over a b bs us t vs p e w at_is = refl
plain_over (Stays now) a b bs us t vs p e w at_is =
    let m : Machine = machine a in
    let h : FollowsAt m.stage (Stays now) m.word m.value b = subst (λ next. FollowsAt m.stage next m.word m.value b) e (follows m.stage m.word m.value b p) in
    absurd (one_of_all (λ (t : Placed). t.offset ≡ length a → ⊥) us t vs (subst (Off (length a)) w (going_on a b bs now p e h.0)) at_is)

over_by : (plain : Bool) (a : List ℕ) (b : ℕ) (bs : List ℕ) (us : List Placed) (t : Placed) (vs : List Placed) → is_plain (machine a).stage ≡ plain
    → ((b == 239) ≡ false) × ((b == 187) ≡ false) × ((b == 191) ≡ false) → tokens (a ++ b ∷ bs) ≡ us ++ t ∷ vs → t.offset ≡ length a → next_stage (machine a).stage b ≡ Over
over_by true a b bs us t vs p u w at_is = plain_over (next_stage (machine a).stage b) a b bs us t vs p refl w at_is
over_by false a b bs us t vs p u w at_is = mark_over (machine a).stage b p u

pub over_plain : (a : List ℕ) (b : ℕ) (bs : List ℕ) (us : List Placed) (t : Placed) (vs : List Placed) → is_plain (machine a).stage ≡ true
    → tokens (a ++ b ∷ bs) ≡ us ++ t ∷ vs → t.offset ≡ length a → next_stage (machine a).stage b ≡ Over
over_plain a b bs us t vs p w at_is = plain_over (next_stage (machine a).stage b) a b bs us t vs p refl w at_is

pub over_there : (a : List ℕ) (b : ℕ) (bs : List ℕ) (us : List Placed) (t : Placed) (vs : List Placed)
    → ((b == 239) ≡ false) × ((b == 187) ≡ false) × ((b == 191) ≡ false) → tokens (a ++ b ∷ bs) ≡ us ++ t ∷ vs → t.offset ≡ length a → next_stage (machine a).stage b ≡ Over
over_there a b bs us t vs u w at_is = over_by (is_plain (machine a).stage) a b bs us t vs refl u w at_is
