-- Where a token of a text stands, the text is cut in two there.
use Rattle.std.proofs.Common.{◌≡◌, ℕ, zero, suc, ◌+◌, ◌≤◌, Bool, not, List, [], ◌∷◌, ◌++◌, Option, Some, None, length, refl, sym, ap, ◌∙◌, arith}
use Rattle.std.specs.List.{All}
use Rattle.std.proofs.lemmas.List.Elements.{All-cons, All-head, All-tail}
use Rattle.cha_list.specs.declared.classes.Class.TheVariants.{InLine}
use Rattle.cha_list.specs.Bytes.{in_class}
use Rattle.pgn_lex.specs.declared.kinds.Token.{Token}
use Rattle.pgn_lex.specs.declared.kinds.Placed.{Placed}
use Rattle.pgn_lex.specs.Tokens.{piece, placed, line_after, tokens_after}

-- all of these stand from a place on
abbrev pub From : ℕ → List Placed → Type 0
From low ts = All (λ (t : Placed). low ≤ t.offset) ts

nothing_from : (low : ℕ) → From low []
nothing_from low k d inside = absurd (omega arith)

from_lower : (low low' : ℕ) (ts : List Placed) → low' ≤ low → From low ts → From low' ts
from_lower low low' ts p h k d inside = let x = h k d inside in omega arith

placed_from : (at end line : ℕ) (o : Option Token) (ts : List Placed) → From (at + 1) ts → From at (placed at end line o ++ ts)
placed_from at end line None ts h = from_lower (at + 1) at ts (omega arith) h
placed_from at end line (Some token) ts h =
    All-cons (λ (t : Placed). at ≤ t.offset) (record { token = token; offset = at; end = end; line = line }) ts (omega arith) (from_lower (at + 1) at ts (omega arith) h)

pub after_from : (pass at line : ℕ) (first : Bool) (bs : List ℕ) → From at (tokens_after pass at line first bs)
unfolding tokens_after
after_from pass at line first [] = nothing_from at
after_from (suc pass) at line first (b ∷ bs) = from_lower (at + 1) at _ (omega arith) (after_from pass (at + 1) (line_after line b) (not (in_class InLine b)) bs)
after_from zero at line first (b ∷ bs) = placed_from at (at + 1 + (piece first b bs).more) line (piece first b bs).token _ (after_from (piece first b bs).more (at + 1) (line_after line b) (not (in_class InLine b)) bs)

-- a token among others
pub one_of_all : (P : Placed → Type 0) (us : List Placed) (t : Placed) (vs : List Placed) → All P (us ++ t ∷ vs) → P t
one_of_all P [] t vs h = All-head P t vs h
one_of_all P (u ∷ us) t vs h = one_of_all P us t vs (All-tail P u (us ++ t ∷ vs) h)

-- a token begins with a byte of the text, which begins its piece
abbrev pub Begins : ℕ → List ℕ → Placed → Type 0
Begins at bs t =
    (x : List ℕ) × (b : ℕ) × (r : List ℕ) × (f : Bool) × (bs ≡ x ++ b ∷ r) × (t.offset ≡ at + length x) × ((piece f b r).token ≡ Some t.token)

one_on : (at n k : ℕ) → n ≡ at + 1 + k → n ≡ at + suc k
one_on at n k e = omega (arith, e)

begins_later : (at b : ℕ) (bs : List ℕ) (t : Placed) → Begins (at + 1) bs t → Begins at (b ∷ bs) t
begins_later at b bs t (x, c, r, f, e, g, h) = (b ∷ x, c, r, f, ap (λ xs. b ∷ xs) e, one_on at t.offset (length x) g, h)

none_on : (n : ℕ) → n ≡ n + 0
none_on n = omega arith

begins_by : (o : Option Token) (at end line b : ℕ) (f : Bool) (bs : List ℕ) (ts us : List Placed) (t : Placed) (vs : List Placed) → (piece f b bs).token ≡ o
    → placed at end line o ++ ts ≡ us ++ t ∷ vs → ((us' : List Placed) → ts ≡ us' ++ t ∷ vs → Begins (at + 1) bs t) → Begins at (b ∷ bs) t
begins_by None at end line b f bs ts us t vs p e later = begins_later at b bs t (later us e)
begins_by (Some token) at end line b f bs ts [] t vs p e later =
    let same : record { token = token; offset = at; end = end; line = line } ≡ t = cc in
    ([], b, bs, f, refl, ap (λ (x : Placed). x.offset) (sym same) ∙ none_on at, p ∙ ap (λ (x : Placed). Some x.token) same)
begins_by (Some token) at end line b f bs ts (u ∷ us) t vs p e later = begins_later at b bs t (later us (cc e))

pub begins_in : (pass at line : ℕ) (first : Bool) (bs : List ℕ) (us : List Placed) (t : Placed) (vs : List Placed) → tokens_after pass at line first bs ≡ us ++ t ∷ vs → Begins at bs t
unfolding tokens_after
begins_in pass at line first [] [] t vs e = cc
begins_in pass at line first [] (u ∷ us) t vs e = cc
begins_in (suc pass) at line first (b ∷ bs) us t vs e = begins_later at b bs t (begins_in pass (at + 1) (line_after line b) (not (in_class InLine b)) bs us t vs e)
begins_in zero at line first (b ∷ bs) us t vs e =
    begins_by (piece first b bs).token at (at + 1 + (piece first b bs).more) line b first bs _ us t vs refl e
    (λ us' g. begins_in (piece first b bs).more (at + 1) (line_after line b) (not (in_class InLine b)) bs us' t vs g)
