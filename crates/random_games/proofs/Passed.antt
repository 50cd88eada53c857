-- The tokens of bytes that stand in front of others: white space and words.
use Rattle.std.proofs.Common.{◌≡◌, ℕ, ◌+◌, ◌≤◌, ◌==◌, Bool, true, false, not, List, [], ◌∷◌, ◌++◌, Some, length, take, refl, sym, ap, subst, ◌∙◌, arith}
use Rattle.std.specs.List.{prefix_len, list_all, fold}
use Rattle.std.proofs.Math.Seq.{take-append_seam}
use Rattle.std.proofs.lemmas.List.{take_all}
use Rattle.std.proofs.lemmas.Bool.{and_parts}
use Rattle.cha_list.specs.declared.classes.Class.TheVariants.{InLine}
use Rattle.cha_list.specs.Bytes.{in_class}
use Rattle.pgn_lex.specs.declared.classes.PgnClass.TheVariants.{WordByte}
use Rattle.pgn_lex.specs.Classes.{in_pgn_class}
use Rattle.pgn_lex.specs.declared.kinds.Token.TheVariants.{Word}
use Rattle.pgn_lex.specs.declared.kinds.Placed.{Placed}
use Rattle.pgn_lex.specs.declared.pieces.Piece.{Piece}
use Rattle.pgn_lex.specs.Pieces.{is_white, word_token, word_piece}
use Rattle.pgn_lex.specs.Tokens.{piece, placed, line_after, tokens_after}

-- whether the byte behind these is the first of its line
abbrev pub first_behind : Bool → List ℕ → Bool
first_behind first [] = first
first_behind first (b ∷ bs) = first_behind (not (in_class InLine b)) bs

-- a place in a line
pub record Spot : Type 0 where
  pub start : ℕ
  pub line : ℕ

abbrev pub spot : ℕ → ℕ → Spot
spot start line = record { start = start; line = line }

-- a word at a place
abbrev pub a_word : List ℕ → Spot → Placed
a_word w at = record { token = Word w; offset = at.start; end = at.start + length w; line = at.line }

-- bytes that a piece has taken are passed
pub passed : (xs ys : List ℕ) (n at line end : ℕ) (first : Bool) → n ≡ length xs → end ≡ at + length xs
    → tokens_after n at line first (xs ++ ys) ≡ tokens_after 0 end (fold line_after line xs) (first_behind first xs) ys
unfolding tokens_after
passed [] ys n at line end first e f =
    let same : at ≡ end = omega (arith, f) in
    ap (λ k. tokens_after k at line first ys) e ∙ ap (λ k. tokens_after 0 k line first ys) same
passed (x ∷ xs) ys n at line end first e f =
    ap (λ k. tokens_after k at line first (x ∷ (xs ++ ys))) e ∙ passed xs ys (length xs) (at + 1) (line_after line x) end (not (in_class InLine x)) refl (omega (arith, f))

-- a byte that begins no escape gives the same anywhere in its line
pub any_first : (b : ℕ) (bs : List ℕ) (at line : ℕ) (first : Bool) → (b == 37) ≡ false → tokens_after 0 at line first (b ∷ bs) ≡ tokens_after 0 at line false (b ∷ bs)
unfolding tokens_after piece
any_first b bs at line false e = refl
any_first b bs at line true e =
    let same : piece true b bs ≡ piece false b bs = rw e refl in
    ap (λ (p : Piece). placed at (at + 1 + p.more) line p.token ++ tokens_after p.more (at + 1) (line_after line b) (not (in_class InLine b)) bs) same

-- a space, and the end of a line
pub spaced : (ys : List ℕ) (at line : ℕ) (first : Bool) → tokens_after 0 at line first (32 ∷ ys) ≡ tokens_after 0 (at + 1) (line_after line 32) false ys
unfolding tokens_after piece is_white in_class
spaced ys at line true = refl
spaced ys at line false = refl

pub new_line : (ys : List ℕ) (at line : ℕ) (first : Bool) → tokens_after 0 at line first (10 ∷ ys) ≡ tokens_after 0 (at + 1) (line_after line 10) true ys
unfolding tokens_after piece is_white in_class
new_line ys at line true = refl
new_line ys at line false = refl

-- a run ends where a byte does not belong to it
pub run_ends : (p : ℕ → Bool) (xs ys : List ℕ) (c : ℕ) → list_all p xs ≡ true → p c ≡ false → prefix_len p (xs ++ c ∷ ys) ≡ length xs
run_ends p [] ys c all out = rw out refl
run_ends p (x ∷ xs) ys c all out =
    let both = and_parts (p x) (list_all p xs) all in
    let here : p x ≡ true = both.0 in
    let rest : prefix_len p (xs ++ c ∷ ys) ≡ length xs = run_ends p xs ys c both.1 out in
    rw (here, rest) (omega arith)

-- a text that is one word
pub record IsSpelled (w : List ℕ) : Type 0 where
  pub byte : ℕ
  pub more : List ℕ
  pub is : w ≡ byte ∷ more
  pub begins : (first : Bool) (bs : List ℕ) → piece first byte bs ≡ word_piece byte bs
  pub run : list_all (in_pgn_class WordByte) more ≡ true
  pub told : word_token (byte ∷ more) ≡ Some (Word (byte ∷ more))
  pub short : length (byte ∷ more) ≤ 255

word_at : (b : ℕ) (bs ys : List ℕ) (c at line end : ℕ) (first : Bool) → piece first b (bs ++ c ∷ ys) ≡ word_piece b (bs ++ c ∷ ys) → list_all (in_pgn_class WordByte) bs ≡ true
    → word_token (b ∷ bs) ≡ Some (Word (b ∷ bs)) → length (b ∷ bs) ≤ 255 → in_pgn_class WordByte c ≡ false → end ≡ at + length (b ∷ bs)
    → tokens_after 0 at line first (b ∷ (bs ++ c ∷ ys)) ≡ a_word (b ∷ bs) (spot at line) ∷ tokens_after 0 end (fold line_after line (b ∷ bs)) (first_behind first (b ∷ bs)) (c ∷ ys)
unfolding tokens_after word_piece
word_at b bs ys c at line end first begins run told short outside e =
    let all = bs ++ c ∷ ys in
    let n : prefix_len (in_pgn_class WordByte) all ≡ length bs = run_ends (in_pgn_class WordByte) bs ys c run outside in
    let p : Piece = piece first b all in
    let more : p.more ≡ length bs = ap (λ (x : Piece). x.more) begins ∙ n in
    let token : p.token ≡ Some (Word (b ∷ bs)) =
    ap (λ (x : Piece). x.token) begins
    ∙ ap (λ k. word_token (take 255 (b ∷ take k all))) n
    ∙ ap (λ xs. word_token (take 255 (b ∷ xs))) (take-append_seam bs (c ∷ ys))
    ∙ ap word_token (take_all 255 (b ∷ bs) short)
    ∙ told in
    let past : tokens_after p.more (at + 1) (line_after line b) (not (in_class InLine b)) all ≡ tokens_after 0 end (fold line_after line (b ∷ bs)) (first_behind first (b ∷ bs)) (c ∷ ys) =
    passed bs (c ∷ ys) p.more (at + 1) (line_after line b) end (not (in_class InLine b)) more (omega (arith, e)) in
    let size : at + 1 + p.more ≡ at + length (b ∷ bs) = omega (arith, more) in
    ap (λ o. placed at (at + 1 + p.more) line o ++ tokens_after p.more (at + 1) (line_after line b) (not (in_class InLine b)) all) token
    ∙ ap (λ k. placed at k line (Some (Word (b ∷ bs))) ++ tokens_after p.more (at + 1) (line_after line b) (not (in_class InLine b)) all) size ∙ ap (λ ts. a_word (b ∷ bs) (spot at line) ∷ ts) past

pub word_read : (w ys : List ℕ) (c at line end : ℕ) (first : Bool) → IsSpelled w → in_pgn_class WordByte c ≡ false → end ≡ at + length w
    → tokens_after 0 at line first (w ++ c ∷ ys) ≡ a_word w (spot at line) ∷ tokens_after 0 end (fold line_after line w) (first_behind first w) (c ∷ ys)
word_read w ys c at line end first h outside e =
    let P : List ℕ → Type 0 = λ x. end ≡ at + length x → tokens_after 0 at line first (x ++ c ∷ ys) ≡ a_word x (spot at line) ∷ tokens_after 0 end (fold line_after line x) (first_behind first x) (c ∷ ys) in
    let whole : P (h.byte ∷ h.more) = λ f. word_at h.byte h.more ys c at line end first (h.begins first (h.more ++ c ∷ ys)) h.run h.told h.short outside f in
    subst P (sym h.is) whole e
