-- The tokens of a text whose games have other results.
use Rattle.std.proofs.Common.{◌≡◌, ℕ, ◌==◌, Bool, true, false, not, ◌&&◌, ◌||◌, if◌then◌else◌, is_some, List, [], ◌∷◌, ◌++◌, Option, Some, None, refl, sym, ap, ◌∙◌, append_assoc}
use Rattle.std.specs.List.{flat_map}
use Rattle.pgn_lex.specs.declared.kinds.Token.{Token}
use Rattle.pgn_lex.specs.declared.kinds.Token.TheVariants.{Tag, BadTag, Word, Star, Enter, Leave, Bad, Unclosed}
use Rattle.pgn_lex.specs.declared.kinds.Placed.{Placed}
use Rattle.pgn_lex.specs.Tokens.{tokens}
use Rattle.pgn_games.specs.declared.marks.ResultMark.{ResultMark}
use Rattle.pgn_games.specs.Cutting.{mark_of, mark_text, depth_after}
use Rattle.pgn_games.specs.Fields.{value_named}
use Rattle.pgn_results.specs.Replacing.{with_tag_if, is_result_tag, is_result_at, with_mark}
use Rattle.pgn_results.specs.Correcting.{corrected_games}
use Rattle.pgn_results.proofs.TokenKinds.{kinds, kinds_append}
use Rattle.pgn_results.proofs.TagReplaced.{tag_replaced}
use Rattle.pgn_results.proofs.TokenReplaced.{mark_token, token_replaced}

-- a token, or the tag pair with another value
abbrev pub retold : Bool → ResultMark → Token → Token
retold true mark (Tag name value cut) = Tag name (mark_text mark) false
retold again mark token = token

-- the tokens of a game that gets another result
unfoldable pub marked_kinds : Bool → ℕ → ResultMark → List Placed → List Token
marked_kinds tagged depth mark [] = []
marked_kinds tagged depth mark (t ∷ ts) =
    if is_result_at depth t.token then mark_token mark ∷ kinds ts
    else retold (is_result_tag t.token && not tagged) mark t.token ∷ marked_kinds (tagged || is_result_tag t.token) (depth_after depth t.token) mark ts

-- the tokens of games that get other results
unfoldable pub expected : List (List Placed) → List (Option ResultMark) → List Token
expected [] marks = []
expected (game ∷ games) [] = kinds game ++ expected games []
expected (game ∷ games) (None ∷ marks) = kinds game ++ expected games marks
expected (game ∷ games) (Some mark ∷ marks) = marked_kinds false 0 mark game ++ expected games marks

-- a text with these tokens behind others
abbrev Reads : List ℕ → List Placed → List Token → Type 0
Reads bytes us ks = (ws : List Placed) × (tokens bytes ≡ us ++ ws) × (kinds ws ≡ ks)

pub named_tag : (token : Token) → is_result_tag token ≡ true → (name : List ℕ) × (value : List ℕ) × (cut : Bool) × (token ≡ Tag name value cut)
unfolding value_named
named_tag (Tag name value cut) e = (name, value, cut, refl)
named_tag BadTag e = cc
named_tag (Word word) e = cc
named_tag Star e = cc
named_tag Enter e = cc
named_tag Leave e = cc
named_tag Bad e = cc
named_tag Unclosed e = cc

pub left_true : (v w : Bool) → (v && w) ≡ true → v ≡ true
left_true true w e = refl
left_true false w e = cc

pub right_true : (v w : Bool) → (v && w) ≡ true → w ≡ true
right_true true w e = e
right_true false w e = cc

-- the first tag pair, where what stands behind is changed already
tag_by : (again : Bool) (mark : ResultMark) (bytes : List ℕ) (us : List Placed) (t : Placed) (ws : List Placed) (ks : List Token) → (again ≡ true → is_result_tag t.token ≡ true)
    → tokens bytes ≡ us ++ t ∷ ws → kinds ws ≡ ks → Reads (with_tag_if again mark t.offset bytes) us (retold again mark t.token ∷ ks)
tag_by false mark bytes us t ws ks is e g = (t ∷ ws, e, ap (λ xs. t.token ∷ xs) g)
tag_by true mark bytes us t ws ks is e g =
    let tag = named_tag t.token (is refl) in
    let x = tag_replaced mark bytes us t ws tag.0 tag.1 tag.2 e tag.3 in
    (x.0, x.1, x.2 ∙ ap (λ xs. Tag tag.0 (mark_text mark) false ∷ xs) g ∙ ap (λ y. retold true mark y ∷ ks) (sym tag.3))

game_by : (ends : Bool) (tagged : Bool) (depth : ℕ) (mark : ResultMark) (bytes : List ℕ) (us : List Placed) (t : Placed) (ts ks : List Placed) → is_result_at depth t.token ≡ ends
    → tokens bytes ≡ us ++ t ∷ (ts ++ ks)
    → Reads (with_mark (tagged || is_result_tag t.token) (depth_after depth t.token) mark ts bytes) (us ++ t ∷ []) (marked_kinds (tagged || is_result_tag t.token) (depth_after depth t.token) mark ts ++ kinds ks)
    → Reads (with_mark tagged depth mark (t ∷ ts) bytes) us (marked_kinds tagged depth mark (t ∷ ts) ++ kinds ks)
unfolding with_mark marked_kinds
game_by true tagged depth mark bytes us t ts ks d e later =
    let x = token_replaced mark bytes us t (ts ++ ks) e (right_true (depth == 0) (is_some (mark_of t.token)) d) in
    rw d (x.0, x.1, x.2 ∙ ap (λ xs. mark_token mark ∷ xs) (kinds_append ts ks))
game_by false tagged depth mark bytes us t ts ks d e (ws, f, g) =
    rw d (tag_by (is_result_tag t.token && not tagged) mark (with_mark (tagged || is_result_tag t.token) (depth_after depth t.token) mark ts bytes) us t ws
    (marked_kinds (tagged || is_result_tag t.token) (depth_after depth t.token) mark ts ++ kinds ks)
    (left_true (is_result_tag t.token) (not tagged)) (f ∙ append_assoc us (t ∷ []) ws) g)

pub game_reads : (tagged : Bool) (depth : ℕ) (mark : ResultMark) (bytes : List ℕ) (us ts ks : List Placed) → tokens bytes ≡ us ++ (ts ++ ks)
    → Reads (with_mark tagged depth mark ts bytes) us (marked_kinds tagged depth mark ts ++ kinds ks)
unfolding with_mark marked_kinds
game_reads tagged depth mark bytes us [] ks e = (ks, e, refl)
game_reads tagged depth mark bytes us (t ∷ ts) ks e =
    game_by (is_result_at depth t.token) tagged depth mark bytes us t ts ks refl e
    (game_reads (tagged || is_result_tag t.token) (depth_after depth t.token) mark bytes (us ++ t ∷ []) ts ks (e ∙ sym (append_assoc us (t ∷ []) (ts ++ ks))))

abbrev pub joined : List (List Placed) → List Placed
joined games = flat_map (λ (game : List Placed). game) games

kept_kinds : (games : List (List Placed)) → kinds (joined games) ≡ expected games []
unfolding expected
kept_kinds [] = refl
kept_kinds (game ∷ games) = kinds_append game (joined games) ∙ ap (λ ks. kinds game ++ ks) (kept_kinds games)

games_read : (games : List (List Placed)) (marks : List (Option ResultMark)) (bytes : List ℕ) (us : List Placed) → tokens bytes ≡ us ++ joined games
    → Reads (corrected_games games marks bytes) us (expected games marks)
unfolding corrected_games expected
games_read [] marks bytes us e = ([], e, refl)
games_read (game ∷ games) [] bytes us e = (game ++ joined games, e, kinds_append game (joined games) ∙ ap (λ ks. kinds game ++ ks) (kept_kinds games))
games_read (game ∷ games) (None ∷ marks) bytes us e =
    let x = games_read games marks bytes (us ++ game) (e ∙ sym (append_assoc us game (joined games))) in
    (game ++ x.0, x.1 ∙ append_assoc us game x.0, kinds_append game x.0 ∙ ap (λ ks. kinds game ++ ks) x.2)
games_read (game ∷ games) (Some mark ∷ marks) bytes us e =
    let x = games_read games marks bytes (us ++ game) (e ∙ sym (append_assoc us game (joined games))) in
    let y = game_reads false 0 mark (corrected_games games marks bytes) us game x.0 (x.1 ∙ append_assoc us game x.0) in
    (y.0, y.1, y.2 ∙ ap (λ ks. marked_kinds false 0 mark game ++ ks) x.2)

pub all_read : (games : List (List Placed)) (marks : List (Option ResultMark)) (bytes : List ℕ) → tokens bytes ≡ joined games → kinds (tokens (corrected_games games marks bytes)) ≡ expected games marks
all_read games marks bytes e = let x = games_read games marks bytes [] e in ap kinds x.1 ∙ x.2
