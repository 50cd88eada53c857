-- The tag pairs Result of the games of a corrected text.
use Rattle.std.proofs.Common.{◌≡◌, ℕ, ◌==◌, Bool, true, false, if◌then◌else◌, is_some, List, [], ◌∷◌, Option, Some, None, map, refl, sym, ap, ◌∙◌}
use Rattle.std.specs.Prelude.{codes}
use Rattle.std.specs.List.{filter_map, cons_option, slice_get}
use Rattle.std.specs.Str.{bytes_eq}
use Rattle.pgn_lex.specs.declared.kinds.Token.{Token}
use Rattle.pgn_lex.specs.declared.kinds.Token.TheVariants.{Tag, BadTag, Word, Star, Enter, Leave, Bad, Unclosed}
use Rattle.pgn_lex.specs.declared.kinds.Placed.{Placed}
use Rattle.pgn_lex.specs.Tokens.{tokens}
use Rattle.pgn_games.specs.declared.marks.ResultMark.{ResultMark}
use Rattle.pgn_games.specs.declared.marks.ResultMark.TheVariants.{WhiteWins, BlackWins, Draw, Unknown}
use Rattle.pgn_games.specs.declared.token_turns.Place.TheVariants.{Before}
use Rattle.pgn_games.specs.Cutting.{mark_of, mark_text, depth_after, cut}
use Rattle.pgn_games.specs.Fields.{value_named, tag_value}
use Rattle.pgn_results.specs.Replacing.{is_result_tag, is_result_at}
use Rattle.pgn_results.specs.Correcting.{corrected}
use Rattle.pgn_results.specs.Kept.{told_tags}
use Rattle.pgn_results.proofs.TokenKinds.{kinds}
use Rattle.pgn_results.proofs.TokenReplaced.{mark_token}
use Rattle.pgn_results.proofs.Marked.{retold, marked_kinds, expected, joined, right_true}
use Rattle.pgn_results.proofs.Normal.{normal}
use Rattle.pgn_results.proofs.SameFields.{plain, tag_plain}
use Rattle.pgn_results.proofs.SameGames.{bare, plain_kinds}
use Rattle.pgn_results.proofs.SameInOrder.{in_order, split_same, size_same, size_marked, first_same, later_same, kinds_joined}
use Rattle.pgn_results.proofs.Alone.{Ended}
use Rattle.pgn_results.proofs.Endings.{AllEnded, all_ended}

abbrev result_tag : List Placed → Option (List ℕ)
result_tag ts = tag_value (codes "Result") ts

tag_bare : (ts : List Placed) → result_tag ts ≡ result_tag (map bare (kinds ts))
tag_bare ts = sym (tag_plain (λ k. k) (codes "Result") (λ k. refl) ts) ∙ ap result_tag (plain_kinds (λ k. k) ts)

-- a result is no tag pair
no_value : (token : Token) → is_some (mark_of token) ≡ true → value_named (codes "Result") token ≡ None
unfolding mark_of value_named
no_value (Tag name value cut) e = cc
no_value BadTag e = cc
no_value (Word word) e = refl
no_value Star e = refl
no_value Enter e = cc
no_value Leave e = cc
no_value Bad e = cc
no_value Unclosed e = cc

mark_no_value : (mark : ResultMark) → value_named (codes "Result") (mark_token mark) ≡ None
unfolding value_named
mark_no_value WhiteWins = refl
mark_no_value BlackWins = refl
mark_no_value Draw = refl
mark_no_value Unknown = refl

-- the first tag pair has the value of the result
value_by : (v : Bool) (value value' : List ℕ) → is_some (if v then Some value else None) ≡ true → (if v then Some value' else None) ≡ Some value'
value_by true value value' e = refl
value_by false value value' e = cc

new_value : (mark : ResultMark) (token : Token) → is_result_tag token ≡ true → value_named (codes "Result") (retold true mark token) ≡ Some (mark_text mark)
unfolding value_named
new_value mark (Tag name value cut) e = value_by (bytes_eq name (codes "Result")) value (mark_text mark) e
new_value mark BadTag e = cc
new_value mark (Word word) e = cc
new_value mark Star e = cc
new_value mark Enter e = cc
new_value mark Leave e = cc
new_value mark Bad e = cc
new_value mark Unclosed e = cc

abbrev values : List Placed → List (List ℕ)
values ts = filter_map (λ (t : Placed). value_named (codes "Result") t.token) ts

some_by : (o : Option (List ℕ)) (xs : List (List ℕ)) (new : List ℕ) → is_some o ≡ true → Some new ≡ (if is_some (slice_get (cons_option o xs) 0) then Some new else None)
some_by None xs new e = cc
some_by (Some x) xs new e = refl

none_by : (o : Option (List ℕ)) → is_some o ≡ false → o ≡ None
none_by None e = refl
none_by (Some x) e = cc

Firsts : ℕ → ResultMark → List Placed → Type 0
Firsts depth mark ts = result_tag (map bare (marked_kinds false depth mark ts)) ≡ (if is_some (result_tag ts) then Some (mark_text mark) else None)

first_by : (ends tag : Bool) (depth : ℕ) (mark : ResultMark) (t : Placed) (ts : List Placed) → is_result_at depth t.token ≡ ends → is_result_tag t.token ≡ tag
    → (is_result_at depth t.token ≡ true → ts ≡ []) → Firsts (depth_after depth t.token) mark ts → Firsts depth mark (t ∷ ts)
unfolding Firsts marked_kinds tag_value
first_by true tag depth mark t ts d f only later =
    let none : ts ≡ [] = only d in
    rw (d, none, mark_no_value mark, no_value t.token (right_true (depth == 0) (is_some (mark_of t.token)) d)) refl
first_by false true depth mark t ts d f only later =
    rw (d, f, new_value mark t.token f) (some_by (value_named (codes "Result") t.token) (values ts) (mark_text mark) f)
first_by false false depth mark t ts d f only later = rw (d, f, none_by (value_named (codes "Result") t.token) f) later

firsts : (depth : ℕ) (mark : ResultMark) (ts : List Placed) → Ended depth ts → Firsts depth mark ts
unfolding Firsts marked_kinds tag_value Ended
firsts depth mark [] h = refl
firsts depth mark (t ∷ ts) h = first_by (is_result_at depth t.token) (is_result_tag t.token) depth mark t ts refl refl h.0 (firsts (depth_after depth t.token) mark ts h.1)

same_tag : (xs ys : List Placed) → kinds xs ≡ kinds ys → result_tag xs ≡ result_tag ys
same_tag xs ys e = tag_bare xs ∙ ap (λ ks. result_tag (map bare ks)) e ∙ sym (tag_bare ys)

marked_tag : (mark : ResultMark) (xs ys : List Placed) → kinds xs ≡ marked_kinds false 0 mark ys → Ended 0 ys → result_tag xs ≡ (if is_some (result_tag ys) then Some (mark_text mark) else None)
unfolding Firsts
marked_tag mark xs ys e h = tag_bare xs ∙ ap (λ ks. result_tag (map bare ks)) e ∙ firsts 0 mark ys h

pairs : (hs gs : List (List Placed)) (marks : List (Option ResultMark)) → map (map (plain normal)) hs ≡ map (map (plain normal)) gs → kinds (joined hs) ≡ expected gs marks → AllEnded 0 gs
    → map (tag_value (codes "Result")) hs ≡ told_tags gs marks
unfolding expected told_tags AllEnded
pairs [] [] marks e f r = refl
pairs [] (g ∷ gs) marks e f r = cc
pairs (h ∷ hs) [] marks e f r = cc
pairs (h ∷ hs) (g ∷ gs) [] e f r =
    let s = split_same (kinds h) (kinds g) (kinds (joined hs)) (expected gs []) (size_same h g (first_same h g hs gs e)) (kinds_joined h hs _ f) in
    ap (λ x. x ∷ map result_tag hs) (same_tag h g s.0) ∙ ap (λ xs. result_tag g ∷ xs) (pairs hs gs [] (later_same h g hs gs e) s.1 r.1)
pairs (h ∷ hs) (g ∷ gs) (None ∷ marks) e f r =
    let s = split_same (kinds h) (kinds g) (kinds (joined hs)) (expected gs marks) (size_same h g (first_same h g hs gs e)) (kinds_joined h hs _ f) in
    ap (λ x. x ∷ map result_tag hs) (same_tag h g s.0) ∙ ap (λ xs. result_tag g ∷ xs) (pairs hs gs marks (later_same h g hs gs e) s.1 r.1)
pairs (h ∷ hs) (g ∷ gs) (Some mark ∷ marks) e f r =
    let s = split_same (kinds h) (marked_kinds false 0 mark g) (kinds (joined hs)) (expected gs marks) (size_same h g (first_same h g hs gs e) ∙ size_marked mark g) (kinds_joined h hs _ f) in
    ap (λ x. x ∷ map result_tag hs) (marked_tag mark h g s.0 r.0)
    ∙ ap (λ xs. (if is_some (result_tag g) then Some (mark_text mark) else None) ∷ xs) (pairs hs gs marks (later_same h g hs gs e) s.1 r.1)

pub same_tags : (bytes : List ℕ) (marks : List (Option ResultMark)) → map (tag_value (codes "Result")) (cut Before (tokens (corrected bytes marks))) ≡ told_tags (cut Before (tokens bytes)) marks
same_tags bytes marks =
    let order = in_order bytes marks in
    pairs (cut Before (tokens (corrected bytes marks))) (cut Before (tokens bytes)) marks order.0 order.1 (all_ended (tokens bytes))
