-- The tokens of bytes, wherever these stand.
use Rattle.std.proofs.Common.{◌≡◌, ℕ, zero, suc, ◌+◌, Bool, not, List, [], ◌∷◌, ◌++◌, Option, Some, None, length, map, refl, sym, ap, ◌∙◌}
use Rattle.std.proofs.lemmas.List.{map-append}
use Rattle.cha_list.specs.declared.classes.Class.TheVariants.{InLine}
use Rattle.cha_list.specs.Bytes.{in_class}
use Rattle.pgn_lex.specs.declared.kinds.Token.{Token}
use Rattle.pgn_lex.specs.declared.kinds.Placed.{Placed}
use Rattle.pgn_lex.specs.Tokens.{piece, placed, line_after, tokens_after}

-- tokens without their places
abbrev pub kinds : List Placed → List Token
kinds ts = map (λ (t : Placed). t.token) ts

pub kinds_append : (xs ys : List Placed) → kinds (xs ++ ys) ≡ kinds xs ++ kinds ys
kinds_append xs ys = map-append (λ (t : Placed). t.token) xs ys

placed_kinds : (at end line at' end' line' : ℕ) (o : Option Token) → kinds (placed at end line o) ≡ kinds (placed at' end' line' o)
placed_kinds at end line at' end' line' None = refl
placed_kinds at end line at' end' line' (Some token) = refl

pub kinds_anywhere : (pass at line at' line' : ℕ) (first : Bool) (bs : List ℕ) → kinds (tokens_after pass at line first bs) ≡ kinds (tokens_after pass at' line' first bs)
unfolding tokens_after
kinds_anywhere pass at line at' line' first [] = refl
kinds_anywhere (suc pass) at line at' line' first (b ∷ bs) = kinds_anywhere pass (at + 1) (line_after line b) (at' + 1) (line_after line' b) (not (in_class InLine b)) bs
kinds_anywhere zero at line at' line' first (b ∷ bs) =
    let p = piece first b bs in
    let f = not (in_class InLine b) in
    kinds_append (placed at (at + 1 + p.more) line p.token) (tokens_after p.more (at + 1) (line_after line b) f bs)
    ∙ ap (λ ks. ks ++ kinds (tokens_after p.more (at + 1) (line_after line b) f bs)) (placed_kinds at (at + 1 + p.more) line at' (at' + 1 + p.more) line' p.token)
    ∙ ap (λ ks. kinds (placed at' (at' + 1 + p.more) line' p.token) ++ ks) (kinds_anywhere p.more (at + 1) (line_after line b) (at' + 1) (line_after line' b) f bs)
    ∙ sym (kinds_append (placed at' (at' + 1 + p.more) line' p.token) (tokens_after p.more (at' + 1) (line_after line' b) f bs))

-- behind the bytes that are passed
pub passed_kinds : (xs : List ℕ) (c : ℕ) (rest : List ℕ) (at line at' line' : ℕ) (first : Bool)
    → kinds (tokens_after (suc (length xs)) at line first (xs ++ c ∷ rest)) ≡ kinds (tokens_after 0 at' line' (not (in_class InLine c)) rest)
unfolding tokens_after
passed_kinds [] c rest at line at' line' first = kinds_anywhere 0 (at + 1) (line_after line c) at' line' (not (in_class InLine c)) rest
passed_kinds (x ∷ xs) c rest at line at' line' first = passed_kinds xs c rest (at + 1) (line_after line x) at' line' (not (in_class InLine x))
