-- A game with another result, in its text and alone.
use Rattle.std.specs.Bool.{⊤}
use Rattle.std.proofs.Common.{◌≡◌, ℕ, zero, suc, ◌+◌, ◌<◌, ◌≤◌, ◌==◌, Bool, true, false, not, ◌&&◌, ◌||◌, if◌then◌else◌, is_some, List, [], ◌∷◌, ◌++◌, length, map, take, drop, refl, sym, ap, ◌∙◌, subst, arith, append_assoc, append-nil}
use Rattle.std.specs.List.{list_any, All}
use Rattle.std.proofs.Math.Seq.{drop-length}
use Rattle.std.proofs.lemmas.List.{take-append-le}
use Rattle.std.proofs.lemmas.List.Sums.{fold-append}
use Rattle.pgn_lex.specs.declared.classes.PgnClass.TheVariants.{WordByte}
use Rattle.pgn_lex.specs.Classes.{in_pgn_class}
use Rattle.pgn_lex.specs.declared.kinds.Placed.{Placed}
use Rattle.pgn_lex.specs.Tokens.{tokens}
use Rattle.pgn_lex.proofs.InOrder.{places_inside}
use Rattle.pgn_lex.proofs.Joining.{moved_token}
use Rattle.pgn_games.specs.declared.marks.ResultMark.{ResultMark}
use Rattle.pgn_games.specs.declared.marks.ResultMark.TheVariants.{WhiteWins, BlackWins, Draw, Unknown}
use Rattle.pgn_games.specs.Cutting.{mark_of, mark_text, depth_after}
use Rattle.pgn_games.specs.Fields.{outside}
use Rattle.pgn_results.specs.Replacing.{leans, begins_word, apart, with_token, with_value, with_tag_if, is_result_tag, is_result_at, with_mark, is_word}
use Rattle.pgn_results.proofs.Standing.{one_of_all}
use Rattle.pgn_results.proofs.TagReplaced.{drop_front, tag_within}
use Rattle.pgn_results.proofs.Marked.{game_reads, named_tag, left_true}

-- only the last of these tokens is a result that ends a game
unfoldable pub Ended : ℕ → List Placed → Type 0
Ended depth [] = ⊤
Ended depth (t ∷ ts) = (is_result_at depth t.token ≡ true → ts ≡ []) × Ended (depth_after depth t.token) ts

-- no such result is at the very beginning
unfoldable pub Late : ℕ → List Placed → Type 0
Late depth [] = ⊤
Late depth (t ∷ ts) = (is_result_at depth t.token ≡ true → 0 < t.offset) × Late (depth_after depth t.token) ts

abbrev has_mark_in : List Placed → Bool
has_mark_in ts = list_any (λ (t : Placed). is_some (mark_of t.token)) ts

-- the space behind the result of these tokens
abbrev space : ResultMark → ℕ → List Placed → List ℕ → List ℕ
space mark depth ts behind = if has_mark_in (outside depth ts) && (is_word mark && begins_word behind) then 32 ∷ [] else []

has_there : (top some : Bool) (t : Placed) (us : List Placed) → is_some (mark_of t.token) ≡ some → (top && some) ≡ true → has_mark_in ((if top then t ∷ [] else []) ++ us) ≡ true
has_there true true t us d e = rw d refl
has_there true false t us d e = cc
has_there false some t us d e = cc

has_not : (top some : Bool) (t : Placed) (us : List Placed) → is_some (mark_of t.token) ≡ some → (top && some) ≡ false → has_mark_in ((if top then t ∷ [] else []) ++ us) ≡ has_mark_in us
has_not true true t us d e = cc
has_not true false t us d e = rw d refl
has_not false some t us d e = refl

-- a result and what follows it
then_by : (leaning begins : Bool) (mark : ResultMark) (more : List ℕ) → leans (mark_text mark) ≡ leaning
    → (if leaning && begins then mark_text mark ++ 32 ∷ more else mark_text mark ++ more) ≡ mark_text mark ++ ((if is_word mark && begins then 32 ∷ [] else []) ++ more)
unfolding in_pgn_class
then_by true true WhiteWins more e = refl
then_by true true BlackWins more e = refl
then_by true true Draw more e = refl
then_by true true Unknown more e = cc
then_by true false WhiteWins more e = refl
then_by true false BlackWins more e = refl
then_by true false Draw more e = refl
then_by true false Unknown more e = cc
then_by false begins WhiteWins more e = cc
then_by false begins BlackWins more e = cc
then_by false begins Draw more e = cc
then_by false begins Unknown more e = refl

then_space : (mark : ResultMark) (more : List ℕ) → apart (mark_text mark) more ≡ mark_text mark ++ ((if is_word mark && begins_word more then 32 ∷ [] else []) ++ more)
then_space mark more = then_by (leans (mark_text mark)) (begins_word more) mark more refl

then_none : (mark : ResultMark) → apart (mark_text mark) [] ≡ mark_text mark
unfolding in_pgn_class
then_none WhiteWins = refl
then_none BlackWins = refl
then_none Draw = refl
then_none Unknown = refl

begins_same : (mark : ResultMark) (more : List ℕ) → begins_word (mark_text mark ++ more) ≡ begins_word (mark_text mark)
begins_same WhiteWins more = refl
begins_same BlackWins more = refl
begins_same Draw more = refl
begins_same Unknown more = refl

apart_by : (v : Bool) (x y more : List ℕ) → (if v then x ++ 32 ∷ (y ++ more) else x ++ (y ++ more)) ≡ (if v then x ++ 32 ∷ y else x ++ y) ++ more
apart_by true x y more = sym (append_assoc x (32 ∷ y) more)
apart_by false x y more = sym (append_assoc x y more)

apart_on : (mark : ResultMark) (x more : List ℕ) → apart x (mark_text mark ++ more) ≡ apart x (mark_text mark) ++ more
apart_on mark x more =
    ap (λ b. if leans x && b then x ++ 32 ∷ (mark_text mark ++ more) else x ++ (mark_text mark ++ more)) (begins_same mark more) ∙ apart_by (leans x && begins_word (mark_text mark)) x (mark_text mark) more

last_result : (mark : ResultMark) (start : ℕ) (game more : List ℕ) → start ≤ length game
    → with_token mark start (length game) (game ++ more) ≡ with_token mark start (length game) game ++ ((if is_word mark && begins_word more then 32 ∷ [] else []) ++ more)
last_result mark start game more low =
    let x = take start game in
    let sp = if is_word mark && begins_word more then 32 ∷ [] else [] in
    ap (λ xs. apart xs (apart (mark_text mark) (drop (length game) (game ++ more)))) (take-append-le start game more low)
    ∙ ap (λ xs. apart x (apart (mark_text mark) xs)) (drop_front game more) ∙ ap (apart x) (then_space mark more) ∙ apart_on mark x (sp ++ more)
    ∙ ap (λ xs. apart x xs ++ (sp ++ more)) (sym (ap (apart (mark_text mark)) (drop-length game) ∙ then_none mark))

-- what follows a game stays, but for the space
abbrev Spaced : ResultMark → Bool → ℕ → List Placed → List ℕ → List ℕ → Type 0
Spaced mark tagged depth ts game more = with_mark tagged depth mark ts (game ++ more) ≡ with_mark tagged depth mark ts game ++ (space mark depth ts more ++ more)

tag_by : (again : Bool) (mark : ResultMark) (bytes : List ℕ) (us : List Placed) (t : Placed) (ws : List Placed) → (again ≡ true → is_result_tag t.token ≡ true) → tokens bytes ≡ us ++ t ∷ ws
    → (more : List ℕ) → with_tag_if again mark t.offset (bytes ++ more) ≡ with_tag_if again mark t.offset bytes ++ more
tag_by false mark bytes us t ws is e more = refl
tag_by true mark bytes us t ws is e more =
    let tag = named_tag t.token (is refl) in
    tag_within mark bytes us t ws tag.0 tag.1 tag.2 e tag.3 more

spaced_by : (ends tagged : Bool) (depth : ℕ) (mark : ResultMark) (game more : List ℕ) (us : List Placed) (t : Placed) (ts : List Placed) → is_result_at depth t.token ≡ ends → tokens game ≡ us ++ t ∷ ts
    → (is_result_at depth t.token ≡ true → ts ≡ []) → ((us : List Placed) (t : Placed) → tokens game ≡ us ++ t ∷ [] → t.end ≡ length game)
    → Spaced mark (tagged || is_result_tag t.token) (depth_after depth t.token) ts game more → Spaced mark tagged depth (t ∷ ts) game more
unfolding with_mark outside
spaced_by true tagged depth mark game more us t ts d e only last later =
    let none : ts ≡ [] = only d in
    let end_is : t.end ≡ length game = last us t (e ∙ ap (λ xs. us ++ t ∷ xs) none) in
    let low = one_of_all (λ (t : Placed). t.offset < length game) us t ts (subst (λ xs. All (λ (t : Placed). t.offset < length game) xs) e (places_inside game)) in
    let has = has_there (depth == 0) (is_some (mark_of t.token)) t (outside (depth_after depth t.token) ts) refl d in
    rw (d, has, end_is) (last_result mark t.offset game more (omega (arith, low)))
spaced_by false tagged depth mark game more us t ts d e only last later =
    let now = tagged || is_result_tag t.token in
    let deep = depth_after depth t.token in
    let text = with_mark now deep mark ts game in
    let r = game_reads now deep mark game (us ++ t ∷ []) ts [] (e ∙ sym (append_assoc us (t ∷ []) ts) ∙ ap (λ xs. (us ++ t ∷ []) ++ xs) (sym (append-nil ts))) in
    let has = has_not (depth == 0) (is_some (mark_of t.token)) t (outside deep ts) refl d in
    let again = is_result_tag t.token && not tagged in
    rw (d, has) (ap (with_tag_if again mark t.offset) later ∙ tag_by again mark text us t r.0 (left_true (is_result_tag t.token) (not tagged)) (r.1 ∙ append_assoc us (t ∷ []) r.0) (space mark deep ts more ++ more))

pub spaced : (tagged : Bool) (depth : ℕ) (mark : ResultMark) (game more : List ℕ) (us ts : List Placed) → tokens game ≡ us ++ ts → Ended depth ts
    → ((us : List Placed) (t : Placed) → tokens game ≡ us ++ t ∷ [] → t.end ≡ length game) → Spaced mark tagged depth ts game more
unfolding with_mark outside Ended
spaced tagged depth mark game more us [] e h last = refl
spaced tagged depth mark game more us (t ∷ ts) e h last =
    spaced_by (is_result_at depth t.token) tagged depth mark game more us t ts refl e h.0 last
    (spaced (tagged || is_result_tag t.token) (depth_after depth t.token) mark game more (us ++ t ∷ []) ts (e ∙ sym (append_assoc us (t ∷ []) ts)) h.1 last)

-- what stands before a game stays
pub take_on : (a xs : List ℕ) (n : ℕ) → take (length a + n) (a ++ xs) ≡ a ++ take n xs
take_on [] xs n = let e : 0 + n ≡ n = omega arith in ap (λ k. take k xs) e
take_on (b ∷ a) xs n = let e : length (b ∷ a) + n ≡ suc (length a + n) = omega arith in ap (λ k. take k (b ∷ (a ++ xs))) e ∙ ap (λ ys. b ∷ ys) (take_on a xs n)

pub drop_on : (a xs : List ℕ) (n : ℕ) → drop (length a + n) (a ++ xs) ≡ drop n xs
drop_on [] xs n = let e : 0 + n ≡ n = omega arith in ap (λ k. drop k xs) e
drop_on (b ∷ a) xs n = let e : length (b ∷ a) + n ≡ suc (length a + n) = omega arith in ap (λ k. drop k (b ∷ (a ++ xs))) e ∙ drop_on a xs n

tag_on : (again : Bool) (mark : ResultMark) (a xs : List ℕ) (start : ℕ) → with_tag_if again mark (length a + start) (a ++ xs) ≡ a ++ with_tag_if again mark start xs
tag_on false mark a xs start = refl
tag_on true mark a xs start =
    ap (λ ys. ys ++ with_value mark (drop (length a + start) (a ++ xs))) (take_on a xs start) ∙ ap (λ ys. (a ++ take start xs) ++ with_value mark ys) (drop_on a xs start)
    ∙ append_assoc a (take start xs) (with_value mark (drop start xs))

leans_on : (a : List ℕ) (b : ℕ) (bs : List ℕ) → leans (a ++ b ∷ bs) ≡ leans (b ∷ bs)
leans_on a b bs = fold-append (λ before b. in_pgn_class WordByte b || (b == 36)) false a (b ∷ bs)

front_by : (v : Bool) (a x y : List ℕ) → (if v then (a ++ x) ++ 32 ∷ y else (a ++ x) ++ y) ≡ a ++ (if v then x ++ 32 ∷ y else x ++ y)
front_by true a x y = append_assoc a x (32 ∷ y)
front_by false a x y = append_assoc a x y

apart_behind : (a x y : List ℕ) → 0 < length x → apart (a ++ x) y ≡ a ++ apart x y
apart_behind a [] y some = absurd (omega arith)
apart_behind a (b ∷ bs) y some = ap (λ v. if v && begins_word y then (a ++ b ∷ bs) ++ 32 ∷ y else (a ++ b ∷ bs) ++ y) (leans_on a b bs) ∙ front_by (leans (b ∷ bs) && begins_word y) a (b ∷ bs) y

some_taken : (n : ℕ) (x : ℕ) (xs : List ℕ) → 0 < n → 0 < length (take n (x ∷ xs))
some_taken zero x xs p = absurd (omega arith)
some_taken (suc n) x xs p = omega arith

abbrev Behind : ResultMark → ℕ → Bool → ℕ → List Placed → List ℕ → List ℕ → Type 0
Behind mark k tagged depth ts a xs = with_mark tagged depth mark (map (moved_token (length a) k) ts) (a ++ xs) ≡ a ++ with_mark tagged depth mark ts xs

behind_by : (ends tagged : Bool) (depth : ℕ) (mark : ResultMark) (k : ℕ) (a : List ℕ) (x : ℕ) (xs : List ℕ) (t : Placed) (ts : List Placed) → is_result_at depth t.token ≡ ends
    → (is_result_at depth t.token ≡ true → 0 < t.offset) → Behind mark k (tagged || is_result_tag t.token) (depth_after depth t.token) ts a (x ∷ xs) → Behind mark k tagged depth (t ∷ ts) a (x ∷ xs)
unfolding with_mark
behind_by true tagged depth mark k a x xs t ts d late later =
    rw d (
    ap (λ ys. apart ys (apart (mark_text mark) (drop (length a + t.end) (a ++ x ∷ xs)))) (take_on a (x ∷ xs) t.offset)
    ∙ ap (λ ys. apart (a ++ take t.offset (x ∷ xs)) (apart (mark_text mark) ys)) (drop_on a (x ∷ xs) t.end)
    ∙ apart_behind a (take t.offset (x ∷ xs)) (apart (mark_text mark) (drop t.end (x ∷ xs))) (some_taken t.offset x xs (late d)))
behind_by false tagged depth mark k a x xs t ts d late later =
    let again = is_result_tag t.token && not tagged in
    rw d (ap (with_tag_if again mark (length a + t.offset)) later ∙ tag_on again mark a (with_mark (tagged || is_result_tag t.token) (depth_after depth t.token) mark ts (x ∷ xs)) t.offset)

pub behind : (tagged : Bool) (depth : ℕ) (mark : ResultMark) (k : ℕ) (a : List ℕ) (x : ℕ) (xs : List ℕ) (ts : List Placed) → Late depth ts → Behind mark k tagged depth ts a (x ∷ xs)
unfolding with_mark Late
behind tagged depth mark k a x xs [] h = refl
behind tagged depth mark k a x xs (t ∷ ts) h =
    behind_by (is_result_at depth t.token) tagged depth mark k a x xs t ts refl h.0 (behind (tagged || is_result_tag t.token) (depth_after depth t.token) mark k a x xs ts h.1)
