-- From one piece to the next.
use Rattle.std.proofs.Common.{◌≡◌, ℕ, zero, suc, ◌+◌, ◌-◌, ◌<◌, ◌≤◌, Bool, not, List, [], ◌∷◌, ◌++◌, length, take, drop, get_or, refl, sym, ap, ◌∙◌, arith, add-one, drop-cons, append_assoc, append-nil, length-drop}
use Rattle.std.specs.List.{fold}
use Rattle.std.proofs.lemmas.List.{get_or-drop, drop_all}
use Rattle.cha_list.specs.declared.classes.Class.TheVariants.{InLine}
use Rattle.cha_list.specs.Bytes.{in_class}
use Rattle.pgn_lex.specs.declared.pieces.Piece.{Piece}
use Rattle.pgn_lex.specs.declared.kinds.Placed.{Placed}
use Rattle.pgn_lex.specs.Tokens.{piece, placed, line_after, tokens_after}

drop_twice : (n m k : ℕ) (xs : List ℕ) → k ≡ n + m → drop m (drop n xs) ≡ drop k xs
drop_twice zero m k xs e = let f : k ≡ m = omega arith in rw f refl
drop_twice (suc n) zero k [] e = let f : k ≡ suc n = omega arith in rw f refl
drop_twice (suc n) (suc m) k [] e = let f : k ≡ suc (n + suc m) = omega arith in rw f refl
drop_twice (suc n) m k (x ∷ xs) e = let f : k ≡ suc (n + m) = omega arith in rw f (drop_twice n m (n + m) xs refl)

passed : (more at line next b : ℕ) (bs : List ℕ) → more ≤ length bs → next ≡ at + 1 + more
    → tokens_after more (at + 1) (line_after line b) (not (in_class InLine b)) bs
    ≡ tokens_after 0 next (fold line_after line (take (suc more) (b ∷ bs))) (not (in_class InLine (get_or (b ∷ bs) more 0))) (drop more bs)
unfolding tokens_after
passed zero at line next b bs small e = let f : next ≡ at + 1 = omega arith in rw f refl
passed (suc m) at line next b [] small e = absurd (omega arith)
passed (suc m) at line next b (c ∷ bs) small e = passed m (at + 1) (line_after line b) next c bs (omega arith) (omega arith)

here : (at line next b : ℕ) (first : Bool) (rest : List ℕ) (p : Piece) → p ≡ piece first b rest → p.more ≤ length rest → next ≡ at + 1 + p.more
    → tokens_after 0 at line first (b ∷ rest)
    ≡ placed at next line p.token ++ tokens_after 0 next (fold line_after line (take (suc p.more) (b ∷ rest))) (not (in_class InLine (get_or (b ∷ rest) p.more 0))) (drop p.more rest)
unfolding tokens_after
here at line next b first rest p e small f =
    rw (← e) (ap (λ k. placed at k line p.token ++ tokens_after p.more (at + 1) (line_after line b) (not (in_class InLine b)) rest) (sym f)
    ∙ ap (λ x. placed at next line p.token ++ x) (passed p.more at line next b rest small f))

pub next_piece : (bytes rest : List ℕ) (at line line' last next : ℕ) (first first' : Bool) (p : Piece) (so_far more all : List Placed)
    → at < length bytes → rest ≡ drop (at + 1) bytes → p ≡ piece first (get_or bytes at 0) rest → p.more ≤ length rest
    → last ≡ at + p.more → next ≡ last + 1 → line' ≡ fold line_after line (take (next - at) (drop at bytes)) → first' ≡ not (in_class InLine (get_or bytes last 0)) → more ≡ so_far ++ placed at next line p.token
    → so_far ++ tokens_after 0 at line first (drop at bytes) ≡ all → more ++ tokens_after 0 next line' first' (drop next bytes) ≡ all
next_piece bytes rest at line line' last next first first' p so_far more all inside back e small f g l h added before =
    let b = get_or bytes at 0 in
    let cut : drop at bytes ≡ b ∷ rest = (let d : drop at bytes ≡ b ∷ drop (at + 1) bytes = rw add-one (drop-cons bytes at 0 inside) in d ∙ ap (λ x. b ∷ x) (sym back)) in
    let one = here at line next b first rest p e small (omega arith) in
    let size : next - at ≡ suc p.more = omega arith in
    let line_is : fold line_after line (take (suc p.more) (b ∷ rest)) ≡ line' = ap (λ k. fold line_after line (take k (b ∷ rest))) (sym size) ∙ ap (λ x. fold line_after line (take (next - at) x)) (sym cut) ∙ sym l in
    let byte : get_or (b ∷ rest) p.more 0 ≡ get_or bytes last 0 = ap (λ xs. get_or xs p.more 0) (sym cut) ∙ get_or-drop at bytes p.more 0 ∙ ap (λ k. get_or bytes k 0) (sym f) in
    let left : drop p.more rest ≡ drop next bytes = ap (drop p.more) back ∙ drop_twice (at + 1) p.more next bytes (omega arith) in
    let first_is : not (in_class InLine (get_or (b ∷ rest) p.more 0)) ≡ first' = ap (λ x. not (in_class InLine x)) byte ∙ sym h in
    let two : tokens_after 0 at line first (drop at bytes) ≡ placed at next line p.token ++ tokens_after 0 next line' first' (drop next bytes) =
    ap (tokens_after 0 at line first) cut ∙ one ∙ ap (λ n. placed at next line p.token ++ tokens_after 0 next n (not (in_class InLine (get_or (b ∷ rest) p.more 0))) (drop p.more rest)) line_is
    ∙ ap (λ x. placed at next line p.token ++ tokens_after 0 next line' x (drop p.more rest)) first_is ∙ ap (λ x. placed at next line p.token ++ tokens_after 0 next line' first' x) left in
    rw added (append_assoc so_far (placed at next line p.token) (tokens_after 0 next line' first' (drop next bytes)) ∙ ap (λ x. so_far ++ x) (sym two) ∙ before)

pub no_piece : (bytes : List ℕ) (at line : ℕ) (first : Bool) (so_far all : List Placed) → length bytes ≤ at → so_far ++ tokens_after 0 at line first (drop at bytes) ≡ all → so_far ≡ all
unfolding tokens_after
no_piece bytes at line first so_far all large h = sym (append-nil so_far) ∙ (rw (drop_all at bytes large) at h)

pub next_inside : (bytes rest : List ℕ) (at more : ℕ) → at < length bytes → rest ≡ drop (at + 1) bytes → more ≤ length rest → at + more + 1 ≤ length bytes
next_inside bytes rest at more inside back small = omega (arith, ap length back, length-drop (at + 1) bytes)
