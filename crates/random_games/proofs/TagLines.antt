-- The token of a tag pair on a line.
use Rattle.std.proofs.Common.{◌≡◌, ℕ, ◌+◌, ◌-◌, ◌≤◌, ◌==◌, ◌&&◌, Bool, true, false, not, nat_lt, List, [], ◌∷◌, ◌++◌, Some, length, take, refl, sym, ap, ◌∙◌, arith, append_assoc}
use Rattle.std.specs.Prelude.{codes}
use Rattle.std.specs.List.{list_all, fold}
use Rattle.std.proofs.lemmas.List.{take_all, length-append}
use Rattle.std.proofs.lemmas.Bool.{and_parts, not-true}
use Rattle.cha_list.specs.declared.classes.Class.TheVariants.{InLine}
use Rattle.cha_list.specs.Bytes.{in_class}
use Rattle.pgn_lex.specs.declared.kinds.Token.TheVariants.{Tag}
use Rattle.pgn_lex.specs.declared.kinds.Placed.{Placed}
use Rattle.pgn_lex.specs.declared.pieces.Piece.{Piece}
use Rattle.pgn_lex.specs.Pieces.{spoken_piece, is_white}
use Rattle.pgn_lex.specs.Tags.{past_blanks, past_byte, name_at, onto, value_after, tag_piece}
use Rattle.pgn_lex.specs.Tokens.{piece, placed, line_after, tokens_after}
use Rattle.pgn_lex.proofs.Keeping.{below}
use Rattle.pgn_lex.proofs.TagParts.{tag_is}
use Rattle.random_games.specs.Made.{tag_line}
use Rattle.random_games.proofs.Passed.{Spot, spot, first_behind, passed, new_line}

-- a byte that stands for itself in a value
abbrev pub is_plain : ℕ → Bool
is_plain b = not (b == 34) && (in_class InLine b && not (b == 92))

value_byte : (b : ℕ) (bs : List ℕ) → is_plain b ≡ true → value_after false (b ∷ bs) ≡ onto b (value_after false bs)
unfolding value_after
value_byte b bs h =
    let one = and_parts (not (b == 34)) (in_class InLine b && not (b == 92)) h in
    let two = and_parts (in_class InLine b) (not (b == 92)) one.1 in
    let quote : (b == 34) ≡ false = not-true (b == 34) one.0 in
    let slash : (b == 92) ≡ false = not-true (b == 92) two.1 in
    let inside : in_class InLine b ≡ true = two.0 in
    rw (quote, inside, slash) refl

-- a value of such bytes, to its closing quote
value_read : (value ys : List ℕ) → list_all is_plain value ≡ true → value_after false (value ++ 34 ∷ ys) ≡ Some (record { text = value; rest = ys })
unfolding value_after
value_read [] ys all = refl
value_read (b ∷ bs) ys all =
    let both = and_parts (is_plain b) (list_all is_plain bs) all in
    value_byte b (bs ++ 34 ∷ ys) both.0 ∙ ap (onto b) (value_read bs ys both.1)

-- a name in front of a space
pub record IsTagName (name : List ℕ) : Type 0 where
  pub no_blanks : (bs : List ℕ) → past_blanks (name ++ 32 ∷ bs) ≡ name ++ 32 ∷ bs
  pub named : (bs : List ℕ) → name_at (name ++ 32 ∷ bs) ≡ Some (record { text = name; rest = 32 ∷ bs })
  pub short : length name ≤ 255

pub record IsTagValue (value : List ℕ) : Type 0 where
  pub plain : list_all is_plain value ≡ true
  pub short : length value ≤ 4096

-- what stands between the brackets
abbrev inside : List ℕ → List ℕ → List ℕ
inside name value = name ++ (32 ∷ 34 ∷ (value ++ 34 ∷ 93 ∷ []))

pub five_and : (a b c d e ys : List ℕ) → (a ++ b ++ c ++ d ++ e) ++ ys ≡ a ++ (b ++ (c ++ (d ++ (e ++ ys))))
five_and a b c d e ys =
    append_assoc (a ++ b ++ c ++ d) e ys ∙ append_assoc (a ++ b ++ c) d (e ++ ys) ∙ append_assoc (a ++ b) c (d ++ (e ++ ys)) ∙ append_assoc a b (c ++ (d ++ (e ++ ys)))

line_is : (name value ys : List ℕ) → tag_line name value ++ ys ≡ 91 ∷ (name ++ 32 ∷ 34 ∷ (value ++ 34 ∷ 93 ∷ 10 ∷ ys))
unfolding tag_line
line_is name value ys = five_and (codes "[") name (codes " \"") value (codes "\"]\n") ys

inside_is : (name value ys : List ℕ) → inside name value ++ 10 ∷ ys ≡ name ++ 32 ∷ 34 ∷ (value ++ 34 ∷ 93 ∷ 10 ∷ ys)
inside_is name value ys =
    append_assoc name (32 ∷ 34 ∷ (value ++ 34 ∷ 93 ∷ [])) (10 ∷ ys) ∙ ap (λ x. name ++ 32 ∷ 34 ∷ x) (append_assoc value (34 ∷ 93 ∷ []) (10 ∷ ys))

length_line : (name value : List ℕ) → length (tag_line name value) ≡ length (inside name value) + 2
length_line name value =
    let a = ap length (line_is name value []) in
    let b = length-append (tag_line name value) [] in
    let c = ap length (inside_is name value []) in
    let d = length-append (inside name value) (10 ∷ []) in
    omega (arith, a, b, c, d)

bracket : (first : Bool) (bs : List ℕ) → piece first 91 bs ≡ tag_piece bs
unfolding piece is_white
bracket true bs = refl
bracket false bs = refl

tag_found : (name value ys : List ℕ) (first : Bool) → IsTagName name → IsTagValue value
    → piece first 91 (inside name value ++ 10 ∷ ys) ≡ spoken_piece (Tag name value false) (length (inside name value))
unfolding past_byte in_class
tag_found name value ys first h v =
    let bs = name ++ 32 ∷ 34 ∷ (value ++ 34 ∷ 93 ∷ 10 ∷ ys) in
    let after = 34 ∷ (value ++ 34 ∷ 93 ∷ 10 ∷ ys) in
    let named : name_at (past_blanks bs) ≡ Some (record { text = name; rest = 32 ∷ after }) = ap name_at (h.no_blanks after) ∙ h.named after in
    let found = tag_is bs name (32 ∷ after) (value ++ 34 ∷ 93 ∷ 10 ∷ ys) value (93 ∷ 10 ∷ ys) (10 ∷ ys) named refl (value_read value (93 ∷ 10 ∷ ys) v.plain) refl in
    let size : length bs - length (10 ∷ ys) ≡ length (inside name value) = (
    let a = ap length (inside_is name value ys) in
    let b = length-append (inside name value) (10 ∷ ys) in
    omega (arith, a, b)) in
    ap (piece first 91) (inside_is name value ys)
    ∙ bracket first bs
    ∙ found
    ∙ ap (λ x. spoken_piece (Tag x (take 4096 value) (nat_lt 4096 (length value))) (length bs - length (10 ∷ ys))) (take_all 255 name h.short)
    ∙ ap (λ x. spoken_piece (Tag name x (nat_lt 4096 (length value))) (length bs - length (10 ∷ ys))) (take_all 4096 value v.short)
    ∙ ap (λ x. spoken_piece (Tag name value x) (length bs - length (10 ∷ ys))) (below (length value) v.short)
    ∙ ap (λ x. spoken_piece (Tag name value false) x) size

-- a tag pair at a place
abbrev pub a_tag : List ℕ → List ℕ → Spot → Placed
a_tag name value at = record { token = Tag name value false; offset = at.start; end = at.start + 1 + length (inside name value); line = at.line }

-- the line behind it
abbrev pub line_behind : ℕ → List ℕ → List ℕ → ℕ
line_behind line name value = line_after (fold line_after (line_after line 91) (inside name value)) 10

pub tag_read : (name value ys : List ℕ) (at line end : ℕ) (first : Bool) → IsTagName name → IsTagValue value → end ≡ at + length (tag_line name value)
    → tokens_after 0 at line first (tag_line name value ++ ys) ≡ a_tag name value (spot at line) ∷ tokens_after 0 end (line_behind line name value) true ys
unfolding tokens_after
tag_read name value ys at line end first h v e =
    let within = inside name value in
    let all = within ++ 10 ∷ ys in
    let size = length_line name value in
    let text : tag_line name value ++ ys ≡ 91 ∷ all = line_is name value ys ∙ ap (λ x. 91 ∷ x) (sym (inside_is name value ys)) in
    let found = tag_found name value ys first h v in
    let next = at + 1 + length within in
    let behind = fold line_after (line_after line 91) within in
    let last : tokens_after 0 next behind (first_behind (not (in_class InLine 91)) within) (10 ∷ ys) ≡ tokens_after 0 end (line_after behind 10) true ys =
    new_line ys next behind (first_behind (not (in_class InLine 91)) within) ∙ ap (λ n. tokens_after 0 n (line_after behind 10) true ys) (omega (arith, e, size)) in
    ap (tokens_after 0 at line first) text
    ∙ ap (λ (p : Piece). placed at (at + 1 + p.more) line p.token ++ tokens_after p.more (at + 1) (line_after line 91) (not (in_class InLine 91)) all) found
    ∙ ap (λ ts. a_tag name value (spot at line) ∷ ts) (passed within (10 ∷ ys) (length within) (at + 1) (line_after line 91) next (not (in_class InLine 91)) refl refl ∙ last)
