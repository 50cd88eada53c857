-- Tokens, whatever results they tell and wherever they stand.
use Rattle.std.proofs.Common.{◌≡◌, ℕ, ◌==◌, Bool, true, false, not, ◌&&◌, ◌||◌, if◌then◌else◌, is_some, List, [], ◌∷◌, ◌++◌, Option, Some, None, map, refl, sym, ap, ◌∙◌, arith}
use Rattle.std.specs.Prelude.{codes}
use Rattle.std.specs.Str.{bytes_eq}
use Rattle.std.proofs.lemmas.List.{map-append}
use Rattle.std.proofs.lemmas.Slice.Eq.{bytes_eq-Decides}
use Rattle.pgn_lex.specs.declared.kinds.Token.{Token}
use Rattle.pgn_lex.specs.declared.kinds.Token.TheVariants.{Tag, BadTag, Word, Star, Enter, Leave, Bad, Unclosed}
use Rattle.pgn_lex.specs.declared.kinds.Placed.{Placed}
use Rattle.pgn_games.specs.declared.marks.ResultMark.{ResultMark}
use Rattle.pgn_games.specs.declared.marks.ResultMark.TheVariants.{WhiteWins, BlackWins, Draw, Unknown}
use Rattle.pgn_games.specs.declared.token_turns.Place.{Place}
use Rattle.pgn_games.specs.Cutting.{mark_of, mark_text, is_tag, depth_after, open_at, turn}
use Rattle.pgn_games.specs.Fields.{value_named, move_word, is_bad, is_unclosed}
use Rattle.pgn_results.specs.Replacing.{is_result_tag, is_result_at}
use Rattle.pgn_results.proofs.TokenKinds.{kinds, kinds_append}
use Rattle.pgn_results.proofs.TokenReplaced.{mark_token}
use Rattle.pgn_results.proofs.Marked.{retold, marked_kinds, expected, joined, left_true, right_true}

-- a tag pair Result has no value, and each result is a star
unfoldable pub normal : Token → Token
normal (Tag name value cut) = if bytes_eq name (codes "Result") then Tag name [] false else Tag name value cut
normal (Word word) = if is_some (mark_of (Word word)) then Star else Word word
normal token = token

depth_by_tag : (v : Bool) (depth : ℕ) (name value : List ℕ) (cut : Bool) → depth_after depth (if v then Tag name [] false else Tag name value cut) ≡ depth
unfolding depth_after
depth_by_tag true depth name value cut = refl
depth_by_tag false depth name value cut = refl

depth_by_word : (v : Bool) (depth : ℕ) (word : List ℕ) → depth_after depth (if v then Star else Word word) ≡ depth
unfolding depth_after
depth_by_word true depth word = refl
depth_by_word false depth word = refl

pub normal_depth : (depth : ℕ) (token : Token) → depth_after depth (normal token) ≡ depth_after depth token
unfolding normal depth_after
normal_depth depth (Tag name value cut) = depth_by_tag (bytes_eq name (codes "Result")) depth name value cut
normal_depth depth BadTag = refl
normal_depth depth (Word word) = depth_by_word (is_some (mark_of (Word word))) depth word
normal_depth depth Star = refl
normal_depth depth Enter = refl
normal_depth depth Leave = refl
normal_depth depth Bad = refl
normal_depth depth Unclosed = refl

-- a test that looks neither at a value nor at a word
by_tag : {B : Type 0} (f : Token → B) (v : Bool) (name value : List ℕ) (cut : Bool) → (v ≡ true → f (Tag name [] false) ≡ f (Tag name value cut)) → f (if v then Tag name [] false else Tag name value cut) ≡ f (Tag name value cut)
by_tag f true name value cut h = h refl
by_tag f false name value cut h = refl

by_word : {B : Type 0} (f : Token → B) (v : Bool) (word : List ℕ) → (v ≡ true → f Star ≡ f (Word word)) → f (if v then Star else Word word) ≡ f (Word word)
by_word f true word h = h refl
by_word f false word h = refl

by_token : {B : Type 0} (f : Token → B) (token : Token) → ((name value : List ℕ) (cut : Bool) → bytes_eq name (codes "Result") ≡ true → f (Tag name [] false) ≡ f (Tag name value cut))
    → ((word : List ℕ) → is_some (mark_of (Word word)) ≡ true → f Star ≡ f (Word word)) → f (normal token) ≡ f token
unfolding normal
by_token f (Tag name value cut) h k = by_tag f (bytes_eq name (codes "Result")) name value cut (h name value cut)
by_token f BadTag h k = refl
by_token f (Word word) h k = by_word f (is_some (mark_of (Word word))) word (k word)
by_token f Star h k = refl
by_token f Enter h k = refl
by_token f Leave h k = refl
by_token f Bad h k = refl
by_token f Unclosed h k = refl

pub normal_tag : (token : Token) → is_tag (normal token) ≡ is_tag token
unfolding is_tag
normal_tag token = by_token is_tag token (λ name value cut e. refl) (λ word e. refl)

pub normal_mark : (token : Token) → is_some (mark_of (normal token)) ≡ is_some (mark_of token)
unfolding mark_of
normal_mark token = by_token (λ k. is_some (mark_of k)) token (λ name value cut e. refl) (λ word e. sym e)

pub normal_bad : (token : Token) → is_bad (normal token) ≡ is_bad token
unfolding is_bad
normal_bad token = by_token is_bad token (λ name value cut e. refl) (λ word e. refl)

pub normal_unclosed : (token : Token) → is_unclosed (normal token) ≡ is_unclosed token
unfolding is_unclosed
normal_unclosed token = by_token is_unclosed token (λ name value cut e. refl) (λ word e. refl)

no_move : (v : Bool) (word : List ℕ) → v ≡ true → None ≡ (if v then None else Some word)
no_move true word e = refl
no_move false word e = cc

pub normal_word : (token : Token) → move_word (normal token) ≡ move_word token
unfolding move_word
normal_word token = by_token move_word token (λ name value cut e. refl) (λ word e. no_move (is_some (mark_of (Word word))) word e)

is_name : (name wanted : List ℕ) → bytes_eq name wanted ≡ true → name ≡ wanted
is_name name wanted e = grind (arith, bytes_eq-Decides name wanted, e)

other_value : (wanted name value : List ℕ) (cut : Bool) → bytes_eq (codes "Result") wanted ≡ false → bytes_eq name (codes "Result") ≡ true → value_named wanted (Tag name [] false) ≡ value_named wanted (Tag name value cut)
unfolding value_named
other_value wanted name value cut d e = let f : bytes_eq name wanted ≡ false = ap (λ x. bytes_eq x wanted) (is_name name (codes "Result") e) ∙ d in rw f refl

pub normal_value : (wanted : List ℕ) (token : Token) → bytes_eq (codes "Result") wanted ≡ false → value_named wanted (normal token) ≡ value_named wanted token
unfolding value_named
normal_value wanted token d = by_token (value_named wanted) token (λ name value cut e. other_value wanted name value cut d e) (λ word e. refl)

pub normal_turn : (place : Place) (token : Token) → turn place (normal token) ≡ turn place token
unfolding turn
normal_turn place token = rw (normal_tag token, normal_mark token, normal_depth (open_at place) token) refl

-- results that are changed are normal as before
one_star : (mark : ResultMark) → normal (mark_token mark) ≡ Star
unfolding normal mark_of
one_star WhiteWins = refl
one_star BlackWins = refl
one_star Draw = refl
one_star Unknown = refl

word_star : (v : Bool) (word : List ℕ) → v ≡ true → (if v then Star else Word word) ≡ Star
word_star true word e = refl
word_star false word e = cc

star : (token : Token) → is_some (mark_of token) ≡ true → normal token ≡ Star
unfolding normal mark_of
star (Tag name value cut) e = cc
star BadTag e = cc
star (Word word) e = word_star _ word e
star Star e = refl
star Enter e = cc
star Leave e = cc
star Bad e = cc
star Unclosed e = cc

named_by : (v : Bool) (name value value' : List ℕ) (cut cut' : Bool) → is_some (if v then Some value else None) ≡ true → (if v then Tag name [] false else Tag name value' cut') ≡ (if v then Tag name [] false else Tag name value cut)
named_by true name value value' cut cut' e = refl
named_by false name value value' cut cut' e = cc

same_tag : (again : Bool) (mark : ResultMark) (token : Token) → (again ≡ true → is_result_tag token ≡ true) → normal (retold again mark token) ≡ normal token
unfolding normal value_named
same_tag false mark token h = refl
same_tag true mark (Tag name value cut) h = named_by (bytes_eq name (codes "Result")) name value (mark_text mark) cut false (h refl)
same_tag true mark BadTag h = refl
same_tag true mark (Word word) h = refl
same_tag true mark Star h = refl
same_tag true mark Enter h = refl
same_tag true mark Leave h = refl
same_tag true mark Bad h = refl
same_tag true mark Unclosed h = refl

marked_by : (ends tagged : Bool) (depth : ℕ) (mark : ResultMark) (t : Placed) (ts : List Placed) → is_result_at depth t.token ≡ ends
    → map normal (marked_kinds (tagged || is_result_tag t.token) (depth_after depth t.token) mark ts) ≡ map normal (kinds ts)
    → map normal (marked_kinds tagged depth mark (t ∷ ts)) ≡ map normal (kinds (t ∷ ts))
unfolding marked_kinds
marked_by true tagged depth mark t ts d later =
    rw d (ap (λ k. k ∷ map normal (kinds ts)) (one_star mark ∙ sym (star t.token (right_true (depth == 0) (is_some (mark_of t.token)) d))))
marked_by false tagged depth mark t ts d later =
    rw d (ap (λ k. k ∷ map normal (marked_kinds (tagged || is_result_tag t.token) (depth_after depth t.token) mark ts)) (same_tag (is_result_tag t.token && not tagged) mark t.token (left_true (is_result_tag t.token) (not tagged)))
    ∙ ap (λ ks. normal t.token ∷ ks) later)

pub marked_normal : (tagged : Bool) (depth : ℕ) (mark : ResultMark) (ts : List Placed) → map normal (marked_kinds tagged depth mark ts) ≡ map normal (kinds ts)
unfolding marked_kinds
marked_normal tagged depth mark [] = refl
marked_normal tagged depth mark (t ∷ ts) = marked_by (is_result_at depth t.token) tagged depth mark t ts refl (marked_normal (tagged || is_result_tag t.token) (depth_after depth t.token) mark ts)

both : (xs xs' ys ys' : List Token) → map normal xs ≡ map normal xs' → map normal ys ≡ map normal ys' → map normal (xs ++ ys) ≡ map normal (xs' ++ ys')
both xs xs' ys ys' e f = map-append normal xs ys ∙ ap (λ ks. ks ++ map normal ys) e ∙ ap (λ ks. map normal xs' ++ ks) f ∙ sym (map-append normal xs' ys')

pub expected_normal : (games : List (List Placed)) (marks : List (Option ResultMark)) → map normal (expected games marks) ≡ map normal (kinds (joined games))
unfolding expected
expected_normal [] marks = refl
expected_normal (game ∷ games) [] = both (kinds game) (kinds game) (expected games []) (kinds (joined games)) refl (expected_normal games []) ∙ ap (map normal) (sym (kinds_append game (joined games)))
expected_normal (game ∷ games) (None ∷ marks) = both (kinds game) (kinds game) (expected games marks) (kinds (joined games)) refl (expected_normal games marks) ∙ ap (map normal) (sym (kinds_append game (joined games)))
expected_normal (game ∷ games) (Some mark ∷ marks) =
    both (marked_kinds false 0 mark game) (kinds game) (expected games marks) (kinds (joined games)) (marked_normal false 0 mark game) (expected_normal games marks)
    ∙ ap (map normal) (sym (kinds_append game (joined games)))
