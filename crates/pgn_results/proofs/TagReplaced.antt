-- A text with another value in a tag pair has the same tokens but for that value.
use Rattle.std.proofs.Common.{◌≡◌, ℕ, suc, ◌+◌, ◌-◌, ◌==◌, Bool, true, false, not, List, [], ◌∷◌, ◌++◌, Option, Some, None, length, take, drop, nat_lt, refl, sym, ap, ◌∙◌, arith, length-append, append_assoc}
use Rattle.cha_list.specs.declared.classes.Class.TheVariants.{InLine}
use Rattle.cha_list.specs.Bytes.{in_class}
use Rattle.pgn_lex.specs.declared.kinds.Token.{Token}
use Rattle.pgn_lex.specs.declared.kinds.Token.TheVariants.{Tag}
use Rattle.pgn_lex.specs.declared.kinds.Placed.{Placed}
use Rattle.pgn_lex.specs.declared.pieces.Piece.{Piece}
use Rattle.pgn_lex.specs.Pieces.{spoken_piece, is_white}
use Rattle.pgn_lex.specs.Tags.{TagRead, tag_at, tag_or_line, tag_piece}
use Rattle.pgn_lex.specs.Tokens.{piece, line_after, tokens_after, tokens}
use Rattle.pgn_lex.specs.Stages.{Machine, machine}
use Rattle.pgn_games.specs.declared.marks.ResultMark.{ResultMark}
use Rattle.pgn_games.specs.declared.marks.ResultMark.TheVariants.{WhiteWins, BlackWins, Draw, Unknown}
use Rattle.pgn_games.specs.Cutting.{mark_text}
use Rattle.pgn_results.specs.Replacing.{with_value, with_tag}
use Rattle.pgn_results.proofs.TokenKinds.{kinds, passed_kinds}
use Rattle.pgn_results.proofs.PieceSorts.{tag_piece_is}
use Rattle.pgn_results.proofs.Boundaries.{boundary}
use Rattle.pgn_results.proofs.Found.{Found, found}
use Rattle.pgn_results.proofs.TagChanges.{changed, EndsWith, tag_alters}

pub take_front : (xs ys : List ℕ) → take (length xs) (xs ++ ys) ≡ xs
take_front [] ys = refl
take_front (x ∷ xs) ys = ap (λ zs. x ∷ zs) (take_front xs ys)

pub drop_front : (xs ys : List ℕ) → drop (length xs) (xs ++ ys) ≡ ys
drop_front [] ys = refl
drop_front (x ∷ xs) ys = drop_front xs ys

-- a bracket begins a tag pair, at the beginning of a line too
bracket_by : (first : Bool) (bs : List ℕ) → piece first 91 bs ≡ tag_piece bs
unfolding piece is_white
bracket_by true bs = refl
bracket_by false bs = refl

read_by : (o : Option TagRead) (bs name value : List ℕ) (cut : Bool) → (tag_or_line bs o).token ≡ Some (Tag name value cut)
    → (t : TagRead) × (o ≡ Some t) × (take 255 t.name ≡ name) × ((tag_or_line bs o).more ≡ length bs - length t.rest)
read_by None bs name value cut e = cc
read_by (Some t) bs name value cut e = (t, refl, cc, refl)

read : (bs name value : List ℕ) (cut : Bool) → (tag_piece bs).token ≡ Some (Tag name value cut)
    → (t : TagRead) × (tag_at bs ≡ Some t) × (take 255 t.name ≡ name) × ((tag_piece bs).more ≡ length bs - length t.rest)
unfolding tag_piece
read bs name value cut e = read_by (tag_at bs) bs name value cut e

kept_mark : (mark : ResultMark) → take 4096 (mark_text mark) ≡ mark_text mark
kept_mark WhiteWins = refl
kept_mark BlackWins = refl
kept_mark Draw = refl
kept_mark Unknown = refl

short_mark : (mark : ResultMark) → nat_lt 4096 (length (mark_text mark)) ≡ false
short_mark WhiteWins = refl
short_mark BlackWins = refl
short_mark Draw = refl
short_mark Unknown = refl

reads_changed : (mark : ResultMark) (bs : List ℕ) (t : TagRead) → tag_at bs ≡ Some (changed mark t)
    → tag_piece bs ≡ spoken_piece (Tag (take 255 t.name) (mark_text mark) false) (length bs - length t.rest)
unfolding tag_piece
reads_changed mark bs t e = rw (e, kept_mark mark, short_mark mark) refl

size_of : (z r : List ℕ) → length (z ++ 93 ∷ r) - length r ≡ suc (length z)
size_of z r = omega (arith, length-append z (93 ∷ r))

behind_tag : (bs r : List ℕ) (at line : ℕ) (first : Bool) → EndsWith 93 bs r → kinds (tokens_after (length bs - length r) at line first bs) ≡ kinds (tokens_after 0 0 0 false r)
unfolding in_class
behind_tag bs r at line first (z, e) =
    ap (λ xs. kinds (tokens_after (length xs - length r) at line first xs)) e ∙ ap (λ n. kinds (tokens_after n at line first (z ++ 93 ∷ r))) (size_of z r)
    ∙ passed_kinds z 93 r at line 0 0 first

no_mark : (b : ℕ) → b ≡ 91 → ((b == 239) ≡ false) × ((b == 187) ≡ false) × ((b == 191) ≡ false)
no_mark b e = rw e (refl, refl, refl)

-- the tokens from a piece on
pub piece_kinds : (at line : ℕ) (first : Bool) (b : ℕ) (bs : List ℕ) (token : Token) (more : ℕ) → piece first b bs ≡ spoken_piece token more
    → kinds (tokens_after 0 at line first (b ∷ bs)) ≡ token ∷ kinds (tokens_after more (at + 1) (line_after line b) (not (in_class InLine b)) bs)
unfolding tokens_after
piece_kinds at line first b bs token more e = rw e refl

pub tag_replaced : (mark : ResultMark) (bytes : List ℕ) (us : List Placed) (t : Placed) (vs : List Placed) (name value : List ℕ) (cut : Bool) → tokens bytes ≡ us ++ t ∷ vs → t.token ≡ Tag name value cut
    → (ws : List Placed) × (tokens (with_tag mark t.offset bytes) ≡ us ++ ws) × (kinds ws ≡ Tag name (mark_text mark) false ∷ kinds vs)
unfolding with_value
tag_replaced mark bytes us t vs name value cut e is =
    let told : Some t.token ≡ Some (Tag name value cut) = ap (λ x. Some x) is in
    let f : Found bytes us t vs = found bytes us t vs e (λ first b r g. no_mark b (tag_piece_is first b r name value cut (g ∙ told)).0) in
    let m : Machine = machine f.front in
    let inv = tag_piece_is m.first f.b f.rest name value cut (f.token_is ∙ told) in
    let tag = read f.rest name value cut (ap (λ (p : Piece). p.token) (sym inv.1) ∙ f.token_is ∙ told) in
    let t' : TagRead = tag.0 in
    let alters = tag_alters mark f.rest t' tag.1 in
    let rest' = with_value mark f.rest in
    let again = tag_alters mark rest' (changed mark t') alters.0 in
    let ws = tokens_after 0 m.at m.line m.first (f.b ∷ rest') in
    let no_quote : with_value mark (f.b ∷ f.rest) ≡ f.b ∷ rest' = rw (inv.0) refl in
    let bytes' : with_tag mark t.offset bytes ≡ f.front ++ f.b ∷ rest' =
    ap (λ n. with_tag mark n bytes) f.offset_is ∙ ap (with_tag mark (length f.front)) f.bytes_are
    ∙ ap (λ xs. xs ++ with_value mark (drop (length f.front) (f.front ++ f.b ∷ f.rest))) (take_front f.front (f.b ∷ f.rest))
    ∙ ap (λ xs. f.front ++ with_value mark xs) (drop_front f.front (f.b ∷ f.rest)) ∙ ap (λ xs. f.front ++ xs) no_quote in
    let p' : piece m.first f.b rest' ≡ spoken_piece (Tag name (mark_text mark) false) (length rest' - length t'.rest) =
    ap (λ b. piece m.first b rest') inv.0 ∙ bracket_by m.first rest' ∙ reads_changed mark rest' t' alters.0 ∙ ap (λ n. spoken_piece (Tag n (mark_text mark) false) (length rest' - length t'.rest)) tag.2 in
    let old : kinds vs ≡ kinds (tokens_after 0 0 0 false t'.rest) =
    ap kinds f.vs_are ∙ ap (λ n. kinds (tokens_after n (m.at + 1) (line_after m.line f.b) (not (in_class InLine f.b)) f.rest)) (ap (λ (p : Piece). p.more) inv.1 ∙ tag.3)
    ∙ behind_tag f.rest t'.rest (m.at + 1) (line_after m.line f.b) (not (in_class InLine f.b)) alters.1 in (
      ws,
      ap tokens bytes' ∙ boundary f.front f.b rest' f.over ∙ ap (λ xs. xs ++ ws) (sym f.us_are),
      piece_kinds m.at m.line m.first f.b rest' (Tag name (mark_text mark) false) (length rest' - length t'.rest) p'
          ∙ ap (λ ks. Tag name (mark_text mark) false ∷ ks) (behind_tag rest' t'.rest (m.at + 1) (line_after m.line f.b) (not (in_class InLine f.b)) again.1 ∙ sym old),
    )

-- what follows such a text stays as it is
pub tag_within : (mark : ResultMark) (bytes : List ℕ) (us : List Placed) (t : Placed) (vs : List Placed) (name value : List ℕ) (cut : Bool) → tokens bytes ≡ us ++ t ∷ vs → t.token ≡ Tag name value cut
    → (more : List ℕ) → with_tag mark t.offset (bytes ++ more) ≡ with_tag mark t.offset bytes ++ more
unfolding with_value
tag_within mark bytes us t vs name value cut e is more =
    let told : Some t.token ≡ Some (Tag name value cut) = ap (λ x. Some x) is in
    let f : Found bytes us t vs = found bytes us t vs e (λ first b r g. no_mark b (tag_piece_is first b r name value cut (g ∙ told)).0) in
    let m : Machine = machine f.front in
    let inv = tag_piece_is m.first f.b f.rest name value cut (f.token_is ∙ told) in
    let tag = read f.rest name value cut (ap (λ (p : Piece). p.token) (sym inv.1) ∙ f.token_is ∙ told) in
    let alters = tag_alters mark f.rest tag.0 tag.1 in
    let a = f.front in
    let short : with_value mark (f.b ∷ f.rest) ≡ f.b ∷ with_value mark f.rest = rw (inv.0) refl in
    let long : with_value mark (f.b ∷ (f.rest ++ more)) ≡ f.b ∷ with_value mark (f.rest ++ more) = rw (inv.0) refl in
    let here : with_tag mark t.offset bytes ≡ a ++ f.b ∷ with_value mark f.rest =
    ap (λ n. with_tag mark n bytes) f.offset_is ∙ ap (with_tag mark (length a)) f.bytes_are
    ∙ ap (λ xs. xs ++ with_value mark (drop (length a) (a ++ f.b ∷ f.rest))) (take_front a (f.b ∷ f.rest)) ∙ ap (λ xs. a ++ with_value mark xs) (drop_front a (f.b ∷ f.rest)) ∙ ap (λ xs. a ++ xs) short in
    let whole : bytes ++ more ≡ a ++ f.b ∷ (f.rest ++ more) = ap (λ xs. xs ++ more) f.bytes_are ∙ append_assoc a (f.b ∷ f.rest) more in
    let there : with_tag mark t.offset (bytes ++ more) ≡ a ++ f.b ∷ with_value mark (f.rest ++ more) =
    ap (λ n. with_tag mark n (bytes ++ more)) f.offset_is ∙ ap (with_tag mark (length a)) whole
    ∙ ap (λ xs. xs ++ with_value mark (drop (length a) (a ++ f.b ∷ (f.rest ++ more)))) (take_front a (f.b ∷ (f.rest ++ more))) ∙ ap (λ xs. a ++ with_value mark xs) (drop_front a (f.b ∷ (f.rest ++ more)))
    ∙ ap (λ xs. a ++ xs) long in
    there ∙ ap (λ xs. a ++ f.b ∷ xs) (alters.2 more) ∙ sym (append_assoc a (f.b ∷ with_value mark f.rest) more) ∙ ap (λ xs. xs ++ more) (sym here)
