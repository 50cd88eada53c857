-- Behind the last byte of a piece the next one begins.
use Rattle.std.proofs.Common.{◌≡◌, ℕ, suc, ◌+◌, Bool, true, not, List, [], ◌∷◌, ◌++◌, length, refl, sym, ap, ◌∙◌, subst, arith, append_assoc}
use Rattle.cha_list.specs.declared.classes.Class.TheVariants.{InLine}
use Rattle.cha_list.specs.Bytes.{in_class}
use Rattle.pgn_lex.specs.declared.pieces.Piece.{Piece}
use Rattle.pgn_lex.specs.declared.stages.Stage.{Stage}
use Rattle.pgn_lex.specs.declared.stages.Next.{Next}
use Rattle.pgn_lex.specs.declared.stages.Next.TheVariants.{Stays, Over}
use Rattle.pgn_lex.specs.Tokens.{piece, line_after, tokens_after}
use Rattle.pgn_lex.specs.Stages.{next_stage, Machine, stepped, read_from, machine}
use Rattle.pgn_lex.proofs.Left.{left_of_piece}
use Rattle.pgn_lex.proofs.Following.{is_plain, FollowsAt, follows}
use Rattle.pgn_lex.proofs.Feeding.{begins, begun_plain, machine_more, read_more}
use Rattle.pgn_results.proofs.Standing.{From, after_from}

-- the machine behind its last byte
none_left : (next : Next) (stage : Stage) (word value : List ℕ) (b : ℕ) (rest : List ℕ) → FollowsAt stage next word value b → (left_of_piece stage word value (b ∷ rest)).more ≡ 0 → next ≡ Over
none_left (Stays now) stage word value b rest h e = absurd (omega (arith, e, ap (λ (p : Piece). p.more) (h.2 rest)))
none_left Over stage word value b rest h e = refl

some_left : (next : Next) (m : Machine) (b : ℕ) (rest : List ℕ) (n : ℕ) → FollowsAt m.stage next m.word m.value b → (left_of_piece m.stage m.word m.value (b ∷ rest)).more ≡ suc n
    → (is_plain (stepped m b next).stage ≡ true) × ((left_of_piece (stepped m b next).stage (stepped m b next).word (stepped m b next).value rest).more ≡ n)
unfolding stepped
some_left (Stays now) m b rest n h e =
    let g = ap (λ (p : Piece). p.more) (h.2 rest) in
    (h.0, omega (arith, e, g))
some_left Over m b rest n h e = absurd (omega (arith, e, ap (λ (p : Piece). p.more) (h rest)))

over_from : (m : Machine) (xs : List ℕ) (c : ℕ) (rs : List ℕ) → is_plain m.stage ≡ true → (left_of_piece m.stage m.word m.value (xs ++ c ∷ rs)).more ≡ length xs
    → next_stage (read_from m xs).stage c ≡ Over
unfolding read_from
over_from m [] c rs p e = none_left (next_stage m.stage c) m.stage m.word m.value c rs (follows m.stage m.word m.value c p) e
over_from m (x ∷ xs) c rs p e =
    let next = next_stage m.stage x in
    let h = some_left next m x (xs ++ c ∷ rs) (length xs) (follows m.stage m.word m.value x p) e in
    over_from (stepped m x next) xs c rs h.0 h.1

pub over_behind : (a : List ℕ) (b : ℕ) (xs : List ℕ) (c : ℕ) (rs : List ℕ) → next_stage (machine a).stage b ≡ Over → (piece (machine a).first b (xs ++ c ∷ rs)).more ≡ length xs
    → next_stage (machine (a ++ b ∷ xs)).stage c ≡ Over
unfolding stepped
over_behind a b xs c rs over e =
    let m : Machine = machine a in
    let m' : Machine = stepped m b Over in
    let here : machine (a ++ b ∷ []) ≡ m' = machine_more a b ∙ ap (stepped m b) over in
    let there : machine (a ++ b ∷ xs) ≡ read_from m' xs =
    ap machine (sym (append_assoc a (b ∷ []) xs)) ∙ read_more _ (a ++ b ∷ []) xs ∙ ap (λ (x : Machine). read_from x xs) here in
    ap (λ (x : Machine). next_stage x.stage c) there
    ∙ over_from m' xs c rs (begun_plain m.first b) (ap (λ (p : Piece). p.more) (sym (begins m.first b m.value (xs ++ c ∷ rs))) ∙ e)

-- from there on a machine waits for no byte of the mark
plain_by : (next : Next) (m : Machine) (b : ℕ) → FollowsAt m.stage next m.word m.value b → is_plain (stepped m b next).stage ≡ true
unfolding stepped
plain_by (Stays now) m b h = h.0
plain_by Over m b h = begun_plain m.first b

plain_on : (m : Machine) (xs : List ℕ) → is_plain m.stage ≡ true → is_plain (read_from m xs).stage ≡ true
unfolding read_from
plain_on m [] p = p
plain_on m (x ∷ xs) p = plain_on (stepped m x (next_stage m.stage x)) xs (plain_by (next_stage m.stage x) m x (follows m.stage m.word m.value x p))

pub plain_behind : (a : List ℕ) (b : ℕ) (xs : List ℕ) → next_stage (machine a).stage b ≡ Over → is_plain (machine (a ++ b ∷ xs)).stage ≡ true
unfolding stepped
plain_behind a b xs over =
    let m : Machine = machine a in
    let m' : Machine = stepped m b Over in
    let here : machine (a ++ b ∷ []) ≡ m' = machine_more a b ∙ ap (stepped m b) over in
    let there : machine (a ++ b ∷ xs) ≡ read_from m' xs =
    ap machine (sym (append_assoc a (b ∷ []) xs)) ∙ read_more _ (a ++ b ∷ []) xs ∙ ap (λ (x : Machine). read_from x xs) here in
    ap (λ (x : Machine). is_plain x.stage) there ∙ plain_on m' xs (begun_plain m.first b)

-- the tokens behind bytes that are passed
pub passed_from : (xs ys : List ℕ) (at line : ℕ) (first : Bool) → From (at + length xs) (tokens_after (length xs) at line first (xs ++ ys))
unfolding tokens_after
passed_from [] ys at line first = let e : at ≡ at + 0 = omega arith in subst (λ n. From n (tokens_after 0 at line first ys)) e (after_from 0 at line first ys)
passed_from (x ∷ xs) ys at line first =
    let e : at + 1 + length xs ≡ at + suc (length xs) = omega arith in
    subst (λ n. From n (tokens_after (length xs) (at + 1) (line_after line x) (not (in_class InLine x)) (xs ++ ys))) e (passed_from xs ys (at + 1) (line_after line x) (not (in_class InLine x)))

pub none_behind : (xs : List ℕ) (at line : ℕ) (first : Bool) → tokens_after (length xs) at line first xs ≡ []
unfolding tokens_after
none_behind [] at line first = refl
none_behind (x ∷ xs) at line first = none_behind xs (at + 1) (line_after line x) (not (in_class InLine x))
