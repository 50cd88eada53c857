-- The games of a corrected text, game by game.
use Rattle.std.proofs.Common.{◌≡◌, ℕ, suc, false, if◌then◌else◌, List, [], ◌∷◌, ◌++◌, Option, Some, None, length, map, refl, sym, ap, ◌∙◌, arith}
use Rattle.pgn_lex.specs.declared.kinds.Token.{Token}
use Rattle.pgn_lex.specs.declared.kinds.Placed.{Placed}
use Rattle.pgn_lex.specs.Tokens.{tokens}
use Rattle.pgn_games.specs.declared.marks.ResultMark.{ResultMark}
use Rattle.pgn_games.specs.declared.token_turns.Place.TheVariants.{Before}
use Rattle.pgn_games.specs.Cutting.{cut}
use Rattle.pgn_games.specs.Games.{game_of, games}
use Rattle.pgn_games.proofs.EachToken.{none_lost}
use Rattle.pgn_results.specs.Replacing.{has_result}
use Rattle.pgn_results.specs.Correcting.{corrected}
use Rattle.pgn_results.specs.Kept.{told_with, told, told_games, OnlyReadable}
use Rattle.pgn_results.proofs.TokenKinds.{kinds, kinds_append}
use Rattle.pgn_results.proofs.Marked.{marked_kinds, expected, joined, all_read}
use Rattle.pgn_results.proofs.Normal.{normal, normal_turn, marked_normal, expected_normal}
use Rattle.pgn_results.proofs.SameFields.{plain, cut_plain}
use Rattle.pgn_results.proofs.SameGames.{same_plain, same_kinds, marked_told}

-- game by game
pub split_same : (xs xs' ys ys' : List Token) → length xs ≡ length xs' → xs ++ ys ≡ xs' ++ ys' → (xs ≡ xs') × (ys ≡ ys')
split_same [] [] ys ys' n e = (refl, e)
split_same [] (x' ∷ xs') ys ys' n e = cc
split_same (x ∷ xs) [] ys ys' n e = cc
split_same (x ∷ xs) (x' ∷ xs') ys ys' n e =
    let same : x ≡ x' = cc in
    let more = split_same xs xs' ys ys' (omega (arith, n)) (cc e) in
    (ap (λ y. y ∷ xs) same ∙ ap (λ zs. x' ∷ zs) more.0, more.1)

size_kinds : (ts : List Placed) → length (kinds ts) ≡ length (map (plain normal) ts)
size_kinds [] = refl
size_kinds (t ∷ ts) = ap (λ n. suc n) (size_kinds ts)

pub size_same : (xs ys : List Placed) → map (plain normal) xs ≡ map (plain normal) ys → length (kinds xs) ≡ length (kinds ys)
size_same xs ys e = size_kinds xs ∙ ap length e ∙ sym (size_kinds ys)

size_normal : (ks : List Token) → length (map normal ks) ≡ length ks
size_normal [] = refl
size_normal (k ∷ ks) = ap (λ n. suc n) (size_normal ks)

pub size_marked : (mark : ResultMark) (ts : List Placed) → length (kinds ts) ≡ length (marked_kinds false 0 mark ts)
size_marked mark ts = sym (size_normal (kinds ts)) ∙ ap length (sym (marked_normal false 0 mark ts)) ∙ size_normal (marked_kinds false 0 mark ts)

pub first_same : (xs ys : List Placed) (xss yss : List (List Placed)) → map (map (plain normal)) (xs ∷ xss) ≡ map (map (plain normal)) (ys ∷ yss) → map (plain normal) xs ≡ map (plain normal) ys
first_same xs ys xss yss e = cc e

pub later_same : (xs ys : List Placed) (xss yss : List (List Placed)) → map (map (plain normal)) (xs ∷ xss) ≡ map (map (plain normal)) (ys ∷ yss) → map (map (plain normal)) xss ≡ map (map (plain normal)) yss
later_same xs ys xss yss e = cc e

pub kinds_joined : (xs : List Placed) (xss : List (List Placed)) (ks : List Token) → kinds (joined (xs ∷ xss)) ≡ ks → kinds xs ++ kinds (joined xss) ≡ ks
kinds_joined xs xss ks e = sym (kinds_append xs (joined xss)) ∙ e

none_given : (games : List (List Placed)) → OnlyReadable games []
unfolding OnlyReadable
none_given [] = tt
none_given (game ∷ games) = tt

pairs : (hs gs : List (List Placed)) (marks : List (Option ResultMark)) → map (map (plain normal)) hs ≡ map (map (plain normal)) gs → kinds (joined hs) ≡ expected gs marks → OnlyReadable gs marks
    → map told (map game_of hs) ≡ told_games gs marks
unfolding expected told_games OnlyReadable
pairs [] [] marks e f r = refl
pairs [] (g ∷ gs) marks e f r = cc
pairs (h ∷ hs) [] marks e f r = cc
pairs (h ∷ hs) (g ∷ gs) [] e f r =
    let s = split_same (kinds h) (kinds g) (kinds (joined hs)) (expected gs []) (size_same h g (first_same h g hs gs e)) (kinds_joined h hs _ f) in
    ap (λ x. x ∷ map told (map game_of hs)) (same_kinds h g s.0) ∙ ap (λ xs. told (game_of g) ∷ xs) (pairs hs gs [] (later_same h g hs gs e) s.1 (none_given gs))
pairs (h ∷ hs) (g ∷ gs) (None ∷ marks) e f r =
    let s = split_same (kinds h) (kinds g) (kinds (joined hs)) (expected gs marks) (size_same h g (first_same h g hs gs e)) (kinds_joined h hs _ f) in
    ap (λ x. x ∷ map told (map game_of hs)) (same_kinds h g s.0) ∙ ap (λ xs. told (game_of g) ∷ xs) (pairs hs gs marks (later_same h g hs gs e) s.1 r)
pairs (h ∷ hs) (g ∷ gs) (Some mark ∷ marks) e f r =
    let s = split_same (kinds h) (marked_kinds false 0 mark g) (kinds (joined hs)) (expected gs marks) (size_same h g (first_same h g hs gs e) ∙ size_marked mark g) (kinds_joined h hs _ f) in
    ap (λ x. x ∷ map told (map game_of hs)) (marked_told mark h g s.0 r.0)
    ∙ ap (λ xs. (if has_result g then told_with mark (game_of g) else told (game_of g)) ∷ xs) (pairs hs gs marks (later_same h g hs gs e) s.1 r.1)

pub in_order : (bytes : List ℕ) (marks : List (Option ResultMark))
    → (map (map (plain normal)) (cut Before (tokens (corrected bytes marks))) ≡ map (map (plain normal)) (cut Before (tokens bytes))) × (kinds (joined (cut Before (tokens (corrected bytes marks)))) ≡ expected (cut Before (tokens bytes)) marks)
in_order bytes marks =
    let ts = tokens bytes in
    let gs = cut Before ts in
    let ws = tokens (corrected bytes marks) in
    let told_kinds : kinds ws ≡ expected gs marks = all_read gs marks bytes (sym (none_lost ts)) in
    let normals : map normal (kinds ws) ≡ map normal (kinds ts) = ap (map normal) told_kinds ∙ expected_normal gs marks ∙ ap (λ xs. map normal (kinds xs)) (none_lost ts) in
    (sym (cut_plain normal normal_turn Before ws) ∙ ap (cut Before) (same_plain ws ts normals) ∙ cut_plain normal normal_turn Before ts, ap kinds (none_lost ws) ∙ told_kinds)

pub same_games : (bytes : List ℕ) (marks : List (Option ResultMark)) → OnlyReadable (cut Before (tokens bytes)) marks → map told (games (corrected bytes marks)) ≡ told_games (cut Before (tokens bytes)) marks
unfolding games
same_games bytes marks readable =
    let order = in_order bytes marks in
    pairs (cut Before (tokens (corrected bytes marks))) (cut Before (tokens bytes)) marks order.0 order.1 readable
