-- Where the tokens of bytes stand.
use Rattle.std.proofs.Common.{◌≡◌, ℕ, zero, suc, ◌+◌, ◌<◌, ◌≤◌, Bool, true, false, if◌then◌else◌, not, List, [], ◌∷◌, ◌++◌, Option, Some, None, length, drop, refl, arith}
use Rattle.std.specs.List.{All, AllPairs}
use Rattle.std.proofs.lemmas.List.Elements.{All-cons}
use Rattle.std.proofs.lemmas.List.Kept.{AllPairs-cons}
use Rattle.cha_list.specs.declared.classes.Class.TheVariants.{InLine}
use Rattle.cha_list.specs.Bytes.{in_class}
use Rattle.pgn_lex.specs.declared.kinds.Token.{Token}
use Rattle.pgn_lex.specs.declared.kinds.Placed.{Placed}
use Rattle.pgn_lex.specs.Tokens.{piece, placed, line_after, tokens_after, has_mark, tokens}

-- tokens stand from one place on, and before another
abbrev Within : ℕ → ℕ → List Placed → Type 0
Within low high ts = All (λ (t : Placed). (low ≤ t.offset) × (t.offset < high)) ts

abbrev Rise : List Placed → Type 0
Rise ts = AllPairs (λ (t u : Placed). t.offset < u.offset) ts

nothing_within : (low high : ℕ) → Within low high []
nothing_within low high k d inside = absurd (omega arith)

wider : (low low' high high' : ℕ) (ts : List Placed) → low' ≤ low → high ≤ high' → Within low high ts → Within low' high' ts
wider low low' high high' ts p q h k d inside = let x = h k d inside in (omega arith, omega arith)

placed_within : (at end line high : ℕ) (found : Option Token) (ts : List Placed) → at < high → Within (at + 1) high ts → Within at high (placed at end line found ++ ts)
placed_within at end line high None ts room h = wider (at + 1) at high high ts (omega arith) (omega arith) h
placed_within at end line high (Some token) ts room h =
    All-cons (λ (t : Placed). (at ≤ t.offset) × (t.offset < high)) (record { token = token; offset = at; end = end; line = line }) ts (omega arith, room)
    (wider (at + 1) at high high ts (omega arith) (omega arith) h)

within : (pass at line : ℕ) (first : Bool) (bs : List ℕ) → Within at (at + length bs) (tokens_after pass at line first bs)
unfolding tokens_after
within pass at line first [] = nothing_within at (at + 0)
within (suc pass) at line first (b ∷ bs) = wider (at + 1) at (at + 1 + length bs) (at + suc (length bs)) _ (omega arith) (omega arith) (within pass (at + 1) (line_after line b) (not (in_class InLine b)) bs)
within zero at line first (b ∷ bs) =
    placed_within at (at + 1 + (piece first b bs).more) line (at + suc (length bs)) (piece first b bs).token _ (omega arith)
    (wider (at + 1) (at + 1) (at + 1 + length bs) (at + suc (length bs)) _ (omega arith) (omega arith) (within (piece first b bs).more (at + 1) (line_after line b) (not (in_class InLine b)) bs))

behind : (at high : ℕ) (ts : List Placed) → Within (at + 1) high ts → All (λ (t : Placed). at < t.offset) ts
behind at high ts h k d inside = let x = h k d inside in omega arith

placed_rise : (at end line high : ℕ) (found : Option Token) (ts : List Placed) → Within (at + 1) high ts → Rise ts → Rise (placed at end line found ++ ts)
placed_rise at end line high None ts h r = r
placed_rise at end line high (Some token) ts h r =
    AllPairs-cons (λ (t u : Placed). t.offset < u.offset) (record { token = token; offset = at; end = end; line = line }) ts (behind at high ts h) r

nothing_rises : Rise []
nothing_rises i j d below inside = absurd (omega arith)

rise : (pass at line : ℕ) (first : Bool) (bs : List ℕ) → Rise (tokens_after pass at line first bs)
unfolding tokens_after
rise pass at line first [] = nothing_rises
rise (suc pass) at line first (b ∷ bs) = rise pass (at + 1) (line_after line b) (not (in_class InLine b)) bs
rise zero at line first (b ∷ bs) =
    placed_rise at (at + 1 + (piece first b bs).more) line (at + 1 + length bs) (piece first b bs).token _ (within (piece first b bs).more (at + 1) (line_after line b) (not (in_class InLine b)) bs)
    (rise (piece first b bs).more (at + 1) (line_after line b) (not (in_class InLine b)) bs)

-- a mark has three bytes
three : (bytes : List ℕ) → has_mark bytes ≡ true → 3 + length (drop 3 bytes) ≡ length bytes
unfolding has_mark
three [] e = cc
three (a ∷ []) e = cc
three (a ∷ b ∷ []) e = cc
three (a ∷ b ∷ c ∷ bs) e = omega arith

inside_by : (bytes : List ℕ) (mark : Bool) → has_mark bytes ≡ mark → All (λ (t : Placed). t.offset < length bytes) (if mark then tokens_after 0 3 1 true (drop 3 bytes) else tokens_after 0 0 1 true bytes)
inside_by bytes true e k d inside = let x = within 0 3 1 true (drop 3 bytes) k d inside in omega (arith, three bytes e)
inside_by bytes false e k d inside = let x = within 0 0 1 true bytes k d inside in omega arith

pub places_inside : (bytes : List ℕ) → All (λ (t : Placed). t.offset < length bytes) (tokens bytes)
unfolding tokens
places_inside bytes = inside_by bytes (has_mark bytes) refl

rise_by : (bytes : List ℕ) (mark : Bool) → Rise (if mark then tokens_after 0 3 1 true (drop 3 bytes) else tokens_after 0 0 1 true bytes)
rise_by bytes true = rise 0 3 1 true (drop 3 bytes)
rise_by bytes false = rise 0 0 1 true bytes

pub places_rise : (bytes : List ℕ) → AllPairs (λ (t u : Placed). t.offset < u.offset) (tokens bytes)
unfolding tokens
places_rise bytes = rise_by bytes (has_mark bytes)
