-- A token of a text: what stands before it, its first byte, and what stands behind.
use Rattle.std.proofs.Common.{◌≡◌, ℕ, ◌+◌, ◌<◌, ◌≤◌, ◌==◌, Bool, true, false, not, if◌then◌else◌, List, [], ◌∷◌, ◌++◌, Option, Some, None, length, take, drop, refl, sym, ap, ◌∙◌, subst, arith, append_assoc, append-nil, length-append}
use Rattle.std.proofs.lemmas.List.{take-append-drop}
use Rattle.std.proofs.lemmas.List.Elements.{All-head, All-tail}
use Rattle.cha_list.specs.declared.classes.Class.TheVariants.{InLine}
use Rattle.cha_list.specs.Bytes.{in_class}
use Rattle.pgn_lex.specs.declared.kinds.Token.{Token}
use Rattle.pgn_lex.specs.declared.kinds.Placed.{Placed}
use Rattle.pgn_lex.specs.declared.pieces.Piece.{Piece}
use Rattle.pgn_lex.specs.declared.stages.Next.TheVariants.{Over}
use Rattle.pgn_lex.specs.Tokens.{piece, placed, line_after, tokens_after, has_mark, tokens}
use Rattle.pgn_lex.specs.Stages.{next_stage, Machine, machine}
use Rattle.pgn_lex.proofs.Feeding.{at_length}
use Rattle.pgn_lex.proofs.InOrder.{places_inside}
use Rattle.pgn_results.proofs.Standing.{From, after_from, one_of_all, Begins, begins_in}
use Rattle.pgn_results.proofs.Boundaries.{boundary}
use Rattle.pgn_results.proofs.Overs.{Before, over_there}

-- tokens behind tokens that stand before
skip : (n : ℕ) (xs ys us : List Placed) (t : Placed) (vs : List Placed) → Before n xs → t.offset ≡ n → xs ++ ys ≡ us ++ t ∷ vs → (us' : List Placed) × (us ≡ xs ++ us') × (ys ≡ us' ++ t ∷ vs)
skip n [] ys us t vs h at_is e = (us, refl, e)
skip n (x ∷ xs) ys [] t vs h at_is e =
    let same : x ≡ t = cc in
    absurd (omega (arith, All-head (λ (t : Placed). t.offset < n) x xs h, ap (λ (t : Placed). t.offset) same, at_is))
skip n (x ∷ xs) ys (u ∷ us) t vs h at_is e =
    let more = skip n xs ys us t vs (All-tail (λ (t : Placed). t.offset < n) x xs h) at_is (cc e) in
    let same : u ≡ x = cc in
    (more.0, ap (λ y. y ∷ us) same ∙ ap (λ zs. x ∷ zs) more.1, more.2)

not_later : (n : ℕ) (us : List Placed) (t : Placed) (vs ts : List Placed) → t.offset ≡ n → From (n + 1) ts → ts ≡ us ++ t ∷ vs → ⊥
not_later n us t vs ts at_is h e =
    omega (arith, one_of_all (λ (t : Placed). n + 1 ≤ t.offset) us t vs (subst (From (n + 1)) e h), at_is)

-- the first of tokens
lead : (n end line : ℕ) (o : Option Token) (ts us : List Placed) (t : Placed) (vs : List Placed) → t.offset ≡ n → From (n + 1) ts → placed n end line o ++ ts ≡ us ++ t ∷ vs
    → (us ≡ []) × (vs ≡ ts) × (o ≡ Some t.token) × (t.end ≡ end)
lead n end line None ts us t vs at_is h e = absurd (not_later n us t vs ts at_is h e)
lead n end line (Some token) ts [] t vs at_is h e =
    let same : record { token = token; offset = n; end = end; line = line } ≡ t = cc in
    (refl, cc, ap (λ (x : Placed). Some x.token) same, ap (λ (x : Placed). x.end) (sym same))
lead n end line (Some token) ts (u ∷ us) t vs at_is h e = absurd (not_later n us t vs ts at_is h (cc e))

pub record Found (bytes : List ℕ) (us : List Placed) (t : Placed) (vs : List Placed) : Type 0 where
  pub front : List ℕ
  pub b : ℕ
  pub rest : List ℕ
  pub bytes_are : bytes ≡ front ++ b ∷ rest
  pub offset_is : t.offset ≡ length front
  pub us_are : us ≡ tokens front
  pub token_is : (piece (machine front).first b rest).token ≡ Some t.token
  pub end_is : t.end ≡ length front + 1 + (piece (machine front).first b rest).more
  pub vs_are : vs ≡ tokens_after (piece (machine front).first b rest).more ((machine front).at + 1) (line_after (machine front).line b) (not (in_class InLine b)) rest
  pub over : next_stage (machine front).stage b ≡ Over

three : (bytes : List ℕ) → has_mark bytes ≡ true → length (take 3 bytes) ≡ 3
unfolding has_mark
three [] e = cc
three (a ∷ []) e = cc
three (a ∷ b ∷ []) e = cc
three (a ∷ b ∷ c ∷ bs) e = refl

begins_behind : (xs bs : List ℕ) (t : Placed) → Begins (length xs) bs t → Begins 0 (xs ++ bs) t
begins_behind xs bs t (x, b, r, f, e, at_is, p) =
    (xs ++ x, b, r, f, ap (λ ys. xs ++ ys) e ∙ sym (append_assoc xs x (b ∷ r)), omega (arith, at_is, length-append xs x), p)

begins_by : (mark : Bool) (bytes : List ℕ) (us : List Placed) (t : Placed) (vs : List Placed) → has_mark bytes ≡ mark
    → (if mark then tokens_after 0 3 1 true (drop 3 bytes) else tokens_after 0 0 1 true bytes) ≡ us ++ t ∷ vs → Begins 0 bytes t
begins_by true bytes us t vs m e =
    subst (λ bs. Begins 0 bs t) (take-append-drop 3 bytes)
    (begins_behind (take 3 bytes) (drop 3 bytes) t (subst (λ n. Begins n (drop 3 bytes) t) (sym (three bytes m)) (begins_in 0 3 1 true (drop 3 bytes) us t vs e)))
begins_by false bytes us t vs m e = begins_in 0 0 1 true bytes us t vs e

begins_text : (bytes : List ℕ) (us : List Placed) (t : Placed) (vs : List Placed) → tokens bytes ≡ us ++ t ∷ vs → Begins 0 bytes t
unfolding tokens
begins_text bytes us t vs e = begins_by (has_mark bytes) bytes us t vs refl e

pub found_by : (bytes : List ℕ) (us : List Placed) (t : Placed) (vs : List Placed) → tokens bytes ≡ us ++ t ∷ vs
    → ((a : List ℕ) (b : ℕ) (r : List ℕ) (f : Bool) → bytes ≡ a ++ b ∷ r → t.offset ≡ length a → (piece f b r).token ≡ Some t.token → tokens (a ++ b ∷ r) ≡ us ++ t ∷ vs → next_stage (machine a).stage b ≡ Over)
    → Found bytes us t vs
unfolding tokens_after
found_by bytes us t vs e begun_there =
    let begins = begins_text bytes us t vs e in
    let a = begins.0 in
    let b = begins.1 in
    let r = begins.2 in
    let f = begins.3 in
    let bytes_are : bytes ≡ a ++ b ∷ r = begins.4 in
    let at_is : t.offset ≡ length a = begins.5 ∙ (let z : 0 + length a ≡ length a = omega arith in z) in
    let here : tokens (a ++ b ∷ r) ≡ us ++ t ∷ vs = ap tokens (sym bytes_are) ∙ e in
    let over = begun_there a b r f bytes_are at_is begins.6 here in
    let m : Machine = machine a in
    let p : Piece = piece m.first b r in
    let later = tokens_after p.more (m.at + 1) (line_after m.line b) (not (in_class InLine b)) r in
    let there : t.offset ≡ m.at = at_is ∙ sym (at_length a) in
    let s = skip (length a) (tokens a) (placed m.at (m.at + 1 + p.more) m.line p.token ++ later) us t vs (places_inside a) at_is (sym (boundary a b r over) ∙ here) in
    let l = lead m.at (m.at + 1 + p.more) m.line p.token later s.0 t vs there (after_from p.more (m.at + 1) (line_after m.line b) (not (in_class InLine b)) r) s.2 in
    record {
      front = a;
      b = b;
      rest = r;
      bytes_are = bytes_are;
      offset_is = at_is;
      us_are = s.1 ∙ ap (λ xs. tokens a ++ xs) l.0 ∙ append-nil (tokens a);
      token_is = l.2;
      end_is = l.3 ∙ ap (λ n. n + 1 + p.more) (at_length a);
      vs_are = l.1;
      over = over;
    }

pub found : (bytes : List ℕ) (us : List Placed) (t : Placed) (vs : List Placed) → tokens bytes ≡ us ++ t ∷ vs
    → ((f : Bool) (b : ℕ) (r : List ℕ) → (piece f b r).token ≡ Some t.token → ((b == 239) ≡ false) × ((b == 187) ≡ false) × ((b == 191) ≡ false)) → Found bytes us t vs
found bytes us t vs e unmarking = found_by bytes us t vs e (λ a b r f is at_is p here. over_there a b r us t vs (unmarking f b r p) here at_is)
