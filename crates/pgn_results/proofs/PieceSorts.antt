-- What a piece is, by the token that it gives.
use Rattle.std.proofs.Common.{◌≡◌, ℕ, suc, ◌+◌, ◌==◌, Bool, true, false, ◌&&◌, ◌||◌, if◌then◌else◌, List, ◌∷◌, Option, Some, None, length, take, refl, ap, arith}
use Rattle.std.specs.List.{prefix_len, list_all}
use Rattle.std.proofs.lemmas.Bool.{eqb-true}
use Rattle.cha_list.specs.declared.classes.Class.TheVariants.{Digit}
use Rattle.cha_list.specs.Bytes.{in_class}
use Rattle.pgn_lex.specs.declared.classes.PgnClass.TheVariants.{NotBrace, WordByte, Mark}
use Rattle.pgn_lex.specs.Classes.{in_pgn_class}
use Rattle.pgn_lex.specs.declared.kinds.Token.{Token}
use Rattle.pgn_lex.specs.declared.kinds.Token.TheVariants.{Tag, Word, Star, Enter, Leave, Bad, Unclosed}
use Rattle.pgn_lex.specs.declared.pieces.Piece.{Piece}
use Rattle.pgn_lex.specs.Pieces.{silent_piece, spoken_piece, is_white, line_piece, comment_piece, annotation_piece, word_token, word_piece}
use Rattle.pgn_lex.specs.Tags.{TagRead, tag_at, tag_or_line, tag_piece}
use Rattle.pgn_lex.specs.Tokens.{piece}

cases_by : (P : Piece → Type 0) (a c d e f g h i j k : Bool) (lp cp tp ap wp : Piece) → P lp → P (silent_piece 0) → P cp → (f ≡ true → P tp) → P (spoken_piece Enter 0) → P (spoken_piece Leave 0)
    → (i ≡ true → P (spoken_piece Star 0)) → P ap → (k ≡ true → P wp) → P (spoken_piece Bad 0)
    → P (if a then lp else (if c then silent_piece 0 else (if d then lp else (if e then cp else (if f then tp else (if g then spoken_piece Enter 0 else (if h then spoken_piece Leave 0 else (if i then spoken_piece Star 0 else (if j then ap else (if k then wp else spoken_piece Bad 0))))))))))
cases_by P true c d e f g h i j k lp cp tp ap wp l w m t n o s x y z = l
cases_by P false true d e f g h i j k lp cp tp ap wp l w m t n o s x y z = w
cases_by P false false true e f g h i j k lp cp tp ap wp l w m t n o s x y z = l
cases_by P false false false true f g h i j k lp cp tp ap wp l w m t n o s x y z = m
cases_by P false false false false true g h i j k lp cp tp ap wp l w m t n o s x y z = t refl
cases_by P false false false false false true h i j k lp cp tp ap wp l w m t n o s x y z = n
cases_by P false false false false false false true i j k lp cp tp ap wp l w m t n o s x y z = o
cases_by P false false false false false false false true j k lp cp tp ap wp l w m t n o s x y z = s refl
cases_by P false false false false false false false false true k lp cp tp ap wp l w m t n o s x y z = x
cases_by P false false false false false false false false false true lp cp tp ap wp l w m t n o s x y z = y refl
cases_by P false false false false false false false false false false lp cp tp ap wp l w m t n o s x y z = z

cases : (P : Piece → Type 0) (first : Bool) (b : ℕ) (bs : List ℕ) → P (line_piece bs) → P (silent_piece 0) → P (comment_piece bs) → ((b == 91) ≡ true → P (tag_piece bs)) → P (spoken_piece Enter 0) → P (spoken_piece Leave 0)
    → ((b == 42) ≡ true → P (spoken_piece Star 0)) → P (annotation_piece bs) → (in_pgn_class WordByte b ≡ true → P (word_piece b bs)) → P (spoken_piece Bad 0) → P (piece first b bs)
unfolding piece
cases P first b bs l w m t n o s x y z =
    cases_by P (first && (b == 37)) (is_white b) (b == 59) (b == 123) (b == 91) (b == 40) (b == 41) (b == 42) (b == 36) (in_pgn_class WordByte b)
    (line_piece bs) (comment_piece bs) (tag_piece bs) (annotation_piece bs) (word_piece b bs) l w m t n o s x y z

-- the sorts of tokens that are replaced
abbrev sort : Option Token → ℕ
sort (Some Star) = 1
sort (Some (Word w)) = 2
sort (Some (Tag name value cut)) = 3
sort o = 0

line_sort : (bs : List ℕ) → sort (line_piece bs).token ≡ 0
unfolding line_piece
line_sort bs = refl

comment_by : (v : Bool) (n : ℕ) → sort (if v then spoken_piece Unclosed n else silent_piece (n + 1)).token ≡ 0
comment_by true n = refl
comment_by false n = refl

comment_sort : (bs : List ℕ) → sort (comment_piece bs).token ≡ 0
unfolding comment_piece
comment_sort bs = comment_by (prefix_len (in_pgn_class NotBrace) bs == length bs) (prefix_len (in_pgn_class NotBrace) bs)

annotation_by : (v : Bool) (n : ℕ) → sort (if v then spoken_piece Bad 0 else silent_piece n).token ≡ 0
annotation_by true n = refl
annotation_by false n = refl

annotation_sort : (bs : List ℕ) → sort (annotation_piece bs).token ≡ 0
unfolding annotation_piece
annotation_sort bs = annotation_by (prefix_len (in_class Digit) bs == 0) (prefix_len (in_class Digit) bs)

tag_by : (bs : List ℕ) (o : Option TagRead) (k : ℕ) → sort (tag_or_line bs o).token ≡ suc k → k ≡ 2
tag_by bs None k e = cc
tag_by bs (Some t) k e = omega (arith, e)

tag_sort : (bs : List ℕ) (k : ℕ) → sort (tag_piece bs).token ≡ suc k → k ≡ 2
unfolding tag_piece
tag_sort bs k e = tag_by bs (tag_at bs) k e

word_by : (v : Bool) (word : List ℕ) (k : ℕ) → sort (if v then None else Some (Word word)) ≡ suc k → k ≡ 1
word_by true word k e = cc
word_by false word k e = omega (arith, e)

word_sort : (b : ℕ) (bs : List ℕ) (k : ℕ) → sort (word_piece b bs).token ≡ suc k → k ≡ 1
unfolding word_piece word_token
word_sort b bs k e =
    let word = take 255 (b ∷ take (prefix_len (in_pgn_class WordByte) bs) bs) in
    word_by (list_all (in_class Digit) word || list_all (in_pgn_class Mark) word) word k e

no_sort : {A : Type 0} (n k : ℕ) → n ≡ 0 → n ≡ suc k → A
no_sort n k e f = absurd (omega (arith, e, f))

abbrev StarIs : ℕ → Piece → Type 0
StarIs b p = sort p.token ≡ 1 → (b ≡ 42) × (p.more ≡ 0)

pub star_piece : (first : Bool) (b : ℕ) (bs : List ℕ) → (piece first b bs).token ≡ Some Star → (b ≡ 42) × ((piece first b bs).more ≡ 0)
star_piece first b bs e =
    cases (StarIs b) first b bs (no_sort _ 0 (line_sort bs)) (no_sort 0 0 refl) (no_sort _ 0 (comment_sort bs)) (λ q s. absurd (omega (arith, tag_sort bs 0 s))) (no_sort 0 0 refl) (no_sort 0 0 refl)
    (λ q s. (eqb-true b 42 q, refl)) (no_sort _ 0 (annotation_sort bs)) (λ q s. absurd (omega (arith, word_sort b bs 0 s))) (no_sort 0 0 refl) (ap sort e)

abbrev WordIs : ℕ → List ℕ → Piece → Type 0
WordIs b bs p = sort p.token ≡ 2 → (in_pgn_class WordByte b ≡ true) × (p ≡ word_piece b bs)

pub word_piece_is : (first : Bool) (b : ℕ) (bs word : List ℕ) → (piece first b bs).token ≡ Some (Word word) → (in_pgn_class WordByte b ≡ true) × (piece first b bs ≡ word_piece b bs)
word_piece_is first b bs word e =
    cases (WordIs b bs) first b bs (no_sort _ 1 (line_sort bs)) (no_sort 0 1 refl) (no_sort _ 1 (comment_sort bs)) (λ q s. absurd (omega (arith, tag_sort bs 1 s))) (no_sort 0 1 refl) (no_sort 0 1 refl)
    (λ q s. absurd (omega (arith, s))) (no_sort _ 1 (annotation_sort bs)) (λ q s. (q, refl)) (no_sort 0 1 refl) (ap sort e)

abbrev TagIs : ℕ → List ℕ → Piece → Type 0
TagIs b bs p = sort p.token ≡ 3 → (b ≡ 91) × (p ≡ tag_piece bs)

pub tag_piece_is : (first : Bool) (b : ℕ) (bs name value : List ℕ) (cut : Bool) → (piece first b bs).token ≡ Some (Tag name value cut) → (b ≡ 91) × (piece first b bs ≡ tag_piece bs)
tag_piece_is first b bs name value cut e =
    cases (TagIs b bs) first b bs (no_sort _ 2 (line_sort bs)) (no_sort 0 2 refl) (no_sort _ 2 (comment_sort bs)) (λ q s. (eqb-true b 91 q, refl)) (no_sort 0 2 refl) (no_sort 0 2 refl)
    (λ q s. absurd (omega (arith, s))) (no_sort _ 2 (annotation_sort bs)) (λ q s. absurd (omega (arith, word_sort b bs 2 s))) (no_sort 0 2 refl) (ap sort e)
