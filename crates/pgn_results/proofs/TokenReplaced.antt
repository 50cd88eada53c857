-- A text with another result at the end of a game has the same tokens but for that result.
use Rattle.std.proofs.Common.{◌≡◌, ◌⊎◌, inl, inr, ℕ, suc, ◌+◌, ◌==◌, Bool, true, false, not, ◌&&◌, if◌then◌else◌, is_some, List, [], ◌∷◌, ◌++◌, Option, Some, None, length, take, drop, refl, sym, ap, ◌∙◌, arith}
use Rattle.std.specs.List.{prefix_len, list_all}
use Rattle.std.proofs.lemmas.Bool.{eqb-true}
use Rattle.std.proofs.lemmas.Bool.Decides.{nat_tests}
use Rattle.cha_list.specs.declared.classes.Class.TheVariants.{InLine}
use Rattle.cha_list.specs.Bytes.{in_class}
use Rattle.pgn_lex.specs.declared.classes.PgnClass.TheVariants.{WordByte}
use Rattle.pgn_lex.specs.Classes.{in_pgn_class}
use Rattle.pgn_lex.specs.declared.kinds.Token.{Token}
use Rattle.pgn_lex.specs.declared.kinds.Token.TheVariants.{Tag, BadTag, Word, Star, Enter, Leave, Bad, Unclosed}
use Rattle.pgn_lex.specs.declared.kinds.Placed.{Placed}
use Rattle.pgn_lex.specs.declared.pieces.Piece.{Piece}
use Rattle.pgn_lex.specs.declared.stages.Stage.{Stage}
use Rattle.pgn_lex.specs.declared.stages.Next.TheVariants.{Over}
use Rattle.pgn_lex.specs.Pieces.{silent_piece, spoken_piece, is_white, word_token, word_piece}
use Rattle.pgn_lex.specs.Tokens.{piece, line_after, tokens_after, tokens}
use Rattle.pgn_lex.specs.Stages.{next_stage, Machine, machine}
use Rattle.pgn_lex.proofs.Runs.{run_grows, run_ends, in_line}
use Rattle.pgn_games.specs.declared.marks.ResultMark.{ResultMark}
use Rattle.pgn_games.specs.declared.marks.ResultMark.TheVariants.{WhiteWins, BlackWins, Draw, Unknown}
use Rattle.pgn_games.specs.Cutting.{mark_of, mark_text}
use Rattle.pgn_results.specs.Replacing.{leans, begins_word, apart, with_token}
use Rattle.pgn_results.proofs.TokenKinds.{kinds, kinds_anywhere}
use Rattle.pgn_results.proofs.PieceSorts.{star_piece, word_piece_is}
use Rattle.pgn_results.proofs.Boundaries.{boundary}
use Rattle.pgn_results.proofs.Found.{Found, found}
use Rattle.pgn_results.proofs.TagReplaced.{take_front, drop_front, piece_kinds}
use Rattle.pgn_results.proofs.StageRooms.{room, is_over, over_is, row, most_room, some_room, front_leans}

-- the token of a result
abbrev pub mark_token : ResultMark → Token
mark_token Unknown = Star
mark_token mark = Word (mark_text mark)

-- what follows from here, wherever it stands
abbrev Rest : List ℕ → List Token
Rest bs = kinds (tokens_after 0 0 0 false bs)

word_in_line : (b : ℕ) → in_pgn_class WordByte b ≡ true → in_class InLine b ≡ true
unfolding in_pgn_class
word_in_line b e = in_line (in_pgn_class WordByte) b e refl refl

-- behind the bytes of a word
word_passed_by : (v : Bool) (b : ℕ) (bs : List ℕ) (at line : ℕ) → in_pgn_class WordByte b ≡ v
    → ((at line : ℕ) → kinds (tokens_after (prefix_len (in_pgn_class WordByte) bs) at line false bs) ≡ Rest (drop (prefix_len (in_pgn_class WordByte) bs) bs))
    → kinds (tokens_after (prefix_len (in_pgn_class WordByte) (b ∷ bs)) at line false (b ∷ bs)) ≡ Rest (drop (prefix_len (in_pgn_class WordByte) (b ∷ bs)) (b ∷ bs))
unfolding tokens_after
word_passed_by true b bs at line e later =
    let n = prefix_len (in_pgn_class WordByte) bs in
    rw (run_grows (in_pgn_class WordByte) b bs e)
    (ap (λ x. kinds (tokens_after n (at + 1) (line_after line b) (not x) bs)) (word_in_line b e) ∙ later (at + 1) (line_after line b))
word_passed_by false b bs at line e later = rw (run_ends (in_pgn_class WordByte) b bs e) (kinds_anywhere 0 at line 0 0 false (b ∷ bs))

word_passed : (bs : List ℕ) (at line : ℕ) → kinds (tokens_after (prefix_len (in_pgn_class WordByte) bs) at line false bs) ≡ Rest (drop (prefix_len (in_pgn_class WordByte) bs) bs)
unfolding tokens_after
word_passed [] at line = refl
word_passed (b ∷ bs) at line = word_passed_by (in_pgn_class WordByte b) b bs at line refl (λ at line. word_passed bs at line)

-- a word ends before a byte that is none of a word
none_begun : (bs : List ℕ) → begins_word bs ≡ false → prefix_len (in_pgn_class WordByte) bs ≡ 0
none_begun [] e = refl
none_begun (b ∷ bs) e = run_ends (in_pgn_class WordByte) b bs e

run_by : (v : Bool) (x : ℕ) (xs bs : List ℕ) → in_pgn_class WordByte x ≡ v → list_all (in_pgn_class WordByte) (x ∷ xs) ≡ true
    → (list_all (in_pgn_class WordByte) xs ≡ true → prefix_len (in_pgn_class WordByte) (xs ++ bs) ≡ length xs) → prefix_len (in_pgn_class WordByte) (x ∷ xs ++ bs) ≡ suc (length xs)
run_by true x xs bs v e later = run_grows (in_pgn_class WordByte) x (xs ++ bs) v ∙ ap (λ n. suc n) (later (rw v at e))
run_by false x xs bs v e later = let no : false ≡ true = rw v at e in cc

run_of : (xs bs : List ℕ) → list_all (in_pgn_class WordByte) xs ≡ true → begins_word bs ≡ false → prefix_len (in_pgn_class WordByte) (xs ++ bs) ≡ length xs
run_of [] bs e f = none_begun bs f
run_of (x ∷ xs) bs e f = run_by (in_pgn_class WordByte x) x xs bs refl e (λ g. run_of xs bs g f)

-- a space is passed
space_by : (first : Bool) (bs : List ℕ) → piece first 32 bs ≡ silent_piece 0
unfolding piece is_white
space_by true bs = refl
space_by false bs = refl

space_kinds : (at line : ℕ) (first : Bool) (bs : List ℕ) → kinds (tokens_after 0 at line first (32 ∷ bs)) ≡ Rest bs
unfolding tokens_after in_class
space_kinds at line first bs = rw (space_by first bs) (kinds_anywhere 0 (at + 1) (line_after line 32) 0 0 false bs)

-- a star
star_by : (first : Bool) (bs : List ℕ) → piece first 42 bs ≡ spoken_piece Star 0
unfolding piece is_white
star_by true bs = refl
star_by false bs = refl

star_kinds : (at line : ℕ) (first : Bool) (bs : List ℕ) → kinds (tokens_after 0 at line first (42 ∷ bs)) ≡ Star ∷ Rest bs
unfolding in_class
star_kinds at line first bs = piece_kinds at line first 42 bs Star 0 (star_by first bs) ∙ ap (λ ks. Star ∷ ks) (kinds_anywhere 0 (at + 1) (line_after line 42) 0 0 false bs)

-- a word that tells a result
digit_piece : (first : Bool) (b : ℕ) (bs : List ℕ) → (b ≡ 48) ⊎ (b ≡ 49) → piece first b bs ≡ word_piece b bs
unfolding piece is_white in_pgn_class
digit_piece true b bs (inl e) = rw e refl
digit_piece false b bs (inl e) = rw e refl
digit_piece true b bs (inr e) = rw e refl
digit_piece false b bs (inr e) = rw e refl

word_kinds : (at line : ℕ) (first : Bool) (b : ℕ) (xs bs : List ℕ) → (b ≡ 48) ⊎ (b ≡ 49) → in_class InLine b ≡ true → list_all (in_pgn_class WordByte) xs ≡ true → begins_word bs ≡ false
    → word_token (take 255 (b ∷ xs)) ≡ Some (Word (b ∷ xs)) → kinds (tokens_after 0 at line first (b ∷ (xs ++ bs))) ≡ Word (b ∷ xs) ∷ Rest bs
unfolding word_piece
word_kinds at line first b xs bs digit l all none is =
    let n : prefix_len (in_pgn_class WordByte) (xs ++ bs) ≡ length xs = run_of xs bs all none in
    let p : piece first b (xs ++ bs) ≡ spoken_piece (Word (b ∷ xs)) (prefix_len (in_pgn_class WordByte) (xs ++ bs)) =
    digit_piece first b (xs ++ bs) digit
    ∙ ap (λ (o : Option Token). record { more = prefix_len (in_pgn_class WordByte) (xs ++ bs); token = o })
    (ap (λ k. word_token (take 255 (b ∷ take k (xs ++ bs)))) n ∙ ap (λ ys. word_token (take 255 (b ∷ ys))) (take_front xs bs) ∙ is) in
    piece_kinds at line first b (xs ++ bs) (Word (b ∷ xs)) (prefix_len (in_pgn_class WordByte) (xs ++ bs)) p
    ∙ ap (λ ks. Word (b ∷ xs) ∷ ks) (
    ap (λ x. kinds (tokens_after (prefix_len (in_pgn_class WordByte) (xs ++ bs)) (at + 1) (line_after line b) (not x) (xs ++ bs))) l
    ∙ word_passed (xs ++ bs) (at + 1) (line_after line b) ∙ ap (λ k. Rest (drop k (xs ++ bs))) n ∙ ap Rest (drop_front xs bs)
    )

-- the text of a result, and what follows it
mark_kinds : (mark : ResultMark) (at line : ℕ) (first : Bool) (bs : List ℕ) → begins_word bs ≡ false → kinds (tokens_after 0 at line first (mark_text mark ++ bs)) ≡ mark_token mark ∷ Rest bs
unfolding word_token in_class in_pgn_class
mark_kinds WhiteWins at line first bs e = word_kinds at line first 49 (45 ∷ 48 ∷ []) bs (inr refl) refl refl e refl
mark_kinds BlackWins at line first bs e = word_kinds at line first 48 (45 ∷ 49 ∷ []) bs (inl refl) refl refl e refl
mark_kinds Draw at line first bs e = word_kinds at line first 49 (47 ∷ 50 ∷ 45 ∷ 49 ∷ 47 ∷ 50 ∷ []) bs (inr refl) refl refl e refl
mark_kinds Unknown at line first bs e = star_kinds at line first bs

-- the text of a result and what follows it, with a space only where a word byte follows
space_no_word : in_pgn_class WordByte 32 ≡ false
unfolding in_pgn_class
space_no_word = refl

then_by : (leaning begins : Bool) (mark : ResultMark) (at line : ℕ) (first : Bool) (bs : List ℕ) → leans (mark_text mark) ≡ leaning → begins_word bs ≡ begins
    → kinds (tokens_after 0 at line first (if leaning && begins then mark_text mark ++ 32 ∷ bs else mark_text mark ++ bs)) ≡ mark_token mark ∷ Rest bs
unfolding in_pgn_class
then_by true true mark at line first bs e f = mark_kinds mark at line first (32 ∷ bs) space_no_word ∙ ap (λ ks. mark_token mark ∷ ks) (space_kinds 0 0 false bs)
then_by true false mark at line first bs e f = mark_kinds mark at line first bs f
then_by false begins WhiteWins at line first bs e f = cc
then_by false begins BlackWins at line first bs e f = cc
then_by false begins Draw at line first bs e f = cc
then_by false begins Unknown at line first bs e f = star_kinds at line first bs

then_kinds : (mark : ResultMark) (at line : ℕ) (first : Bool) (bs : List ℕ) → kinds (tokens_after 0 at line first (apart (mark_text mark) bs)) ≡ mark_token mark ∷ Rest bs
then_kinds mark at line first bs = then_by (leans (mark_text mark)) (begins_word bs) mark at line first bs refl refl

-- its first byte
abbrev head : ResultMark → ℕ
head WhiteWins = 49
head BlackWins = 48
head Draw = 49
head Unknown = 42

headed_by : (v : Bool) (x : ℕ) (xs bs : List ℕ) → (ys : List ℕ) × ((if v then (x ∷ xs) ++ 32 ∷ bs else (x ∷ xs) ++ bs) ≡ x ∷ ys)
headed_by true x xs bs = (xs ++ 32 ∷ bs, refl)
headed_by false x xs bs = (xs ++ bs, refl)

headed : (mark : ResultMark) (bs : List ℕ) → (ys : List ℕ) × (apart (mark_text mark) bs ≡ head mark ∷ ys)
headed WhiteWins bs = headed_by (leans (mark_text WhiteWins) && begins_word bs) 49 (45 ∷ 48 ∷ []) bs
headed BlackWins bs = headed_by (leans (mark_text BlackWins) && begins_word bs) 48 (45 ∷ 49 ∷ []) bs
headed Draw bs = headed_by (leans (mark_text Draw) && begins_word bs) 49 (47 ∷ 50 ∷ 45 ∷ 49 ∷ 47 ∷ 50 ∷ []) bs
headed Unknown bs = headed_by (leans (mark_text Unknown) && begins_word bs) 42 [] bs

-- it begins a piece where no word is open
head_over : (mark : ResultMark) (stage : Stage) → not (room stage == 0) ≡ true → (in_pgn_class WordByte (head mark) ≡ true → (room stage == 1) ≡ false) → next_stage stage (head mark) ≡ Over
unfolding in_pgn_class
head_over WhiteWins stage e f = over_is (next_stage stage 49) ((row stage).2 ∙ most_room stage e (f refl))
head_over BlackWins stage e f = over_is (next_stage stage 48) ((row stage).1 ∙ most_room stage e (f refl))
head_over Draw stage e f = over_is (next_stage stage 49) ((row stage).2 ∙ most_room stage e (f refl))
head_over Unknown stage e f = over_is (next_stage stage 42) ((row stage).0 ∙ e)

space_over : (stage : Stage) → not (room stage == 0) ≡ true → next_stage stage 32 ≡ Over
space_over stage e = over_is (next_stage stage 32) ((row stage).3 e)

-- where it is put, the text before it is read as before
abbrev Puts : ResultMark → List ℕ → List ℕ → List ℕ → Type 0
Puts mark front bs whole = (ws : List Placed) × (tokens whole ≡ tokens front ++ ws) × (kinds ws ≡ mark_token mark ∷ Rest bs)

no_lean : (n : ℕ) (v w : Bool) → (n == 1) ≡ v → (n ≡ 1 → w ≡ true) → w ≡ false → (n == 1) ≡ false
no_lean n false w d e f = d
no_lean n true w d e f = let g : w ≡ true = e (eqb-true n 1 d) in let no : true ≡ false = sym g ∙ f in cc

left_false : (v w : Bool) → (v && w) ≡ false → w ≡ true → v ≡ false
left_false true true e f = cc
left_false true false e f = cc
left_false false w e f = refl

puts_by : (v : Bool) (mark : ResultMark) (front bs : List ℕ) → not (room (machine front).stage == 0) ≡ true → (leans front && begins_word (apart (mark_text mark) bs)) ≡ v
    → Puts mark front bs (if v then front ++ 32 ∷ apart (mark_text mark) bs else front ++ apart (mark_text mark) bs)
puts_by true mark front bs n e =
    let m : Machine = machine front in
    let inner = apart (mark_text mark) bs in (
      tokens_after 0 m.at m.line m.first (32 ∷ inner),
      boundary front 32 inner (space_over m.stage n),
      space_kinds m.at m.line m.first inner ∙ then_kinds mark 0 0 false bs,
    )
puts_by false mark front bs n e =
    let m : Machine = machine front in
    let inner = apart (mark_text mark) bs in
    let h = headed mark bs in
    let over : next_stage m.stage (head mark) ≡ Over =
    head_over mark m.stage n (λ word.
    no_lean (room m.stage) (room m.stage == 1) (leans front) refl (front_leans front)
    (left_false (leans front) (begins_word inner) e (ap begins_word h.1 ∙ word))) in (
      tokens_after 0 m.at m.line m.first inner,
      ap (λ xs. tokens (front ++ xs)) h.1 ∙ boundary front (head mark) h.0 over ∙ ap (λ xs. tokens front ++ tokens_after 0 m.at m.line m.first xs) (sym h.1),
      then_kinds mark m.at m.line m.first bs,
    )

-- the result that stood there
abbrev Old : Bool → ℕ → List ℕ → Type 0
Old first b bs =
    ((b ≡ 42) ⊎ ((b ≡ 48) ⊎ (b ≡ 49)))
    × ((at line : ℕ) → kinds (tokens_after (piece first b bs).more at line (not (in_class InLine b)) bs) ≡ Rest (drop (piece first b bs).more bs))

old_star : (first : Bool) (b : ℕ) (bs : List ℕ) → (piece first b bs).token ≡ Some Star → Old first b bs
unfolding in_class
old_star first b bs e =
    let s = star_piece first b bs e in
    (inl s.0, λ at line. rw (s.1, s.0) (kinds_anywhere 0 at line 0 0 false bs))

first_digit : (b : ℕ) (xs : List ℕ) → is_some (mark_of (Word (b ∷ xs))) ≡ true → (b ≡ 48) ⊎ (b ≡ 49)
unfolding mark_of
first_digit b xs e = grind (arith, nat_tests)

word_said : (v : Bool) (word word' : List ℕ) → (if v then None else Some (Word word)) ≡ Some (Word word') → word' ≡ word
word_said true word word' e = cc
word_said false word word' e = cc

word_told : (word word' : List ℕ) → word_token word ≡ Some (Word word') → word' ≡ word
unfolding word_token
word_told word word' e = word_said _ word word' e

old_word : (first : Bool) (b : ℕ) (bs word : List ℕ) → (piece first b bs).token ≡ Some (Word word) → is_some (mark_of (Word word)) ≡ true → Old first b bs
unfolding word_piece
old_word first b bs word e marks =
    let p = word_piece_is first b bs word e in
    let n = prefix_len (in_pgn_class WordByte) bs in
    let told : word ≡ b ∷ take 254 (take n bs) = word_told (take 255 (b ∷ take n bs)) word (ap (λ (p : Piece). p.token) (sym p.1) ∙ e) in (
      inr (first_digit b (take 254 (take n bs)) (ap (λ w. is_some (mark_of (Word w))) (sym told) ∙ marks)),
      λ at line.
          ap (λ k. kinds (tokens_after k at line (not (in_class InLine b)) bs)) (ap (λ (p : Piece). p.more) p.1)
          ∙ ap (λ x. kinds (tokens_after n at line (not x) bs)) (word_in_line b p.0)
          ∙ word_passed bs at line ∙ ap (λ k. Rest (drop k bs)) (ap (λ (p : Piece). p.more) (sym p.1)),
    )

old : (first : Bool) (b : ℕ) (bs : List ℕ) (token : Token) → (piece first b bs).token ≡ Some token → is_some (mark_of token) ≡ true → Old first b bs
unfolding mark_of
old first b bs (Tag name value cut) e marks = cc
old first b bs BadTag e marks = cc
old first b bs (Word word) e marks = old_word first b bs word e marks
old first b bs Star e marks = old_star first b bs e
old first b bs Enter e marks = cc
old first b bs Leave e marks = cc
old first b bs Bad e marks = cc
old first b bs Unclosed e marks = cc

no_mark : (b : ℕ) → (b ≡ 42) ⊎ ((b ≡ 48) ⊎ (b ≡ 49)) → ((b == 239) ≡ false) × ((b == 187) ≡ false) × ((b == 191) ≡ false)
no_mark b (inl e) = rw e (refl, refl, refl)
no_mark b (inr (inl e)) = rw e (refl, refl, refl)
no_mark b (inr (inr e)) = rw e (refl, refl, refl)

free : (stage : Stage) (b : ℕ) → (b ≡ 42) ⊎ ((b ≡ 48) ⊎ (b ≡ 49)) → next_stage stage b ≡ Over → not (room stage == 0) ≡ true
free stage b (inl e) over = sym (row stage).0 ∙ ap (λ x. is_over (next_stage stage x)) (sym e) ∙ ap is_over over
free stage b (inr (inl e)) over = some_room (room stage) (sym (row stage).1 ∙ ap (λ x. is_over (next_stage stage x)) (sym e) ∙ ap is_over over)
free stage b (inr (inr e)) over = some_room (room stage) (sym (row stage).2 ∙ ap (λ x. is_over (next_stage stage x)) (sym e) ∙ ap is_over over)

drop_behind : (xs : List ℕ) (b : ℕ) (bs : List ℕ) (k n : ℕ) → k ≡ length xs + 1 + n → drop k (xs ++ b ∷ bs) ≡ drop n bs
drop_behind [] b bs k n e = let f : k ≡ suc n = omega (arith, e) in rw f refl
drop_behind (x ∷ xs) b bs k n e = let f : k ≡ suc (length xs + 1 + n) = omega (arith, e) in rw f (drop_behind xs b bs (length xs + 1 + n) n refl)

pub token_replaced : (mark : ResultMark) (bytes : List ℕ) (us : List Placed) (t : Placed) (vs : List Placed) → tokens bytes ≡ us ++ t ∷ vs → is_some (mark_of t.token) ≡ true
    → (ws : List Placed) × (tokens (with_token mark t.offset t.end bytes) ≡ us ++ ws) × (kinds ws ≡ mark_token mark ∷ kinds vs)
token_replaced mark bytes us t vs e marks =
    let f : Found bytes us t vs = found bytes us t vs e (λ first b r g. no_mark b (old first b r t.token g marks).0) in
    let m : Machine = machine f.front in
    let p : Piece = piece m.first f.b f.rest in
    let was = old m.first f.b f.rest t.token f.token_is marks in
    let bs = drop p.more f.rest in
    let puts = puts_by (leans f.front && begins_word (apart (mark_text mark) bs)) mark f.front bs (free m.stage f.b was.0 f.over) refl in
    let before : take t.offset bytes ≡ f.front = ap (λ n. take n bytes) f.offset_is ∙ ap (take (length f.front)) f.bytes_are ∙ take_front f.front (f.b ∷ f.rest) in
    let after : drop t.end bytes ≡ bs = ap (drop t.end) f.bytes_are ∙ drop_behind f.front f.b f.rest t.end p.more f.end_is in
    let whole : with_token mark t.offset t.end bytes ≡ apart f.front (apart (mark_text mark) bs) =
    ap (λ xs. apart xs (apart (mark_text mark) (drop t.end bytes))) before ∙ ap (λ xs. apart f.front (apart (mark_text mark) xs)) after in (
      puts.0,
      ap tokens whole ∙ puts.1 ∙ ap (λ xs. xs ++ puts.0) (sym f.us_are),
      puts.2 ∙ ap (λ ks. mark_token mark ∷ ks) (sym (ap kinds f.vs_are ∙ was.1 (m.at + 1) (line_after m.line f.b))),
    )
