-- What is kept of a word and of a value.
use Rattle.std.proofs.Common.{◌≡◌, ℕ, min, nat_lt, List, length, take, refl, ap, ◌∙◌, arith}
use Rattle.std.proofs.lemmas.List.{take_min, length-take, take-take}
use Rattle.std.proofs.lemmas.Bool.Decides.{nat_tests}
use Rattle.pgn_lex.specs.declared.kinds.Token.TheVariants.{Tag}

pub few_kept : (k size : ℕ) (value kept : List ℕ) → size ≡ length value → k ≡ min size 4096 → kept ≡ take k value → kept ≡ take 4096 value
few_kept k size value kept e f g =
    let k' : k ≡ min 4096 (length value) = omega arith in
    g ∙ ap (λ x. take x value) k' ∙ take_min 4096 value

take_fewer : (value : List ℕ) → take 4096 (take 4097 value) ≡ take 4096 value
take_fewer value = take-take 4096 4097 value (omega arith)

longer : (n m : ℕ) → n ≡ min 4097 m → nat_lt 4096 n ≡ nat_lt 4096 m
longer n m e = grind (arith, nat_tests)

pub tag_kept : (name value w v : List ℕ) → name ≡ take 255 w → value ≡ take 4097 v
    → Tag name (take 4096 value) (nat_lt 4096 (length value)) ≡ Tag (take 255 w) (take 4096 v) (nat_lt 4096 (length v))
tag_kept name value w v e f =
    let size : length value ≡ min 4097 (length v) = ap length f ∙ length-take 4097 v in
    let text : take 4096 value ≡ take 4096 v = ap (take 4096) f ∙ take_fewer v in
    rw (e, text, longer (length value) (length v) size) refl
