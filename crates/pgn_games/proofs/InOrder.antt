-- The games of a text stand in order, and those that are settled end before it.
use Rattle.std.proofs.Common.{◌≡◌, ℕ, zero, suc, ◌+◌, ◌<◌, ◌≤◌, Bool, true, false, not, if◌then◌else◌, List, [], ◌∷◌, ◌++◌, Option, Some, None, length, map, take, drop, nat_lt, slice_get, refl, sym, ap, ◌∙◌, subst, arith, append-nil}
use Rattle.std.specs.Bool.{⊤}
use Rattle.std.specs.List.{All, flat_map, fold}
use Rattle.std.proofs.lemmas.Bool.Decides.{nat_tests}
use Rattle.std.proofs.lemmas.List.{take-map}
use Rattle.std.proofs.lemmas.List.Elements.{All-cons, All-head, All-tail}
use Rattle.cha_list.specs.declared.classes.Class.TheVariants.{InLine}
use Rattle.cha_list.specs.Bytes.{in_class}
use Rattle.pgn_lex.specs.declared.kinds.Token.{Token}
use Rattle.pgn_lex.specs.declared.kinds.Placed.{Placed}
use Rattle.pgn_lex.specs.declared.pieces.Piece.{Piece}
use Rattle.pgn_lex.specs.declared.stages.Stage.{Stage}
use Rattle.pgn_lex.specs.declared.stages.Next.{Next}
use Rattle.pgn_lex.specs.declared.stages.Next.TheVariants.{Stays, Over}
use Rattle.pgn_lex.specs.Tokens.{piece, placed, line_after, tokens_after, has_mark, tokens, settled_after, has_half_mark, settled_tokens}
use Rattle.pgn_lex.specs.Stages.{begun, next_stage, word_after, grown_value}
use Rattle.pgn_lex.proofs.Left.{left_of_piece}
use Rattle.pgn_lex.proofs.Following.{is_plain, FollowsAt, follows, ends_there}
use Rattle.pgn_lex.proofs.Feeding.{begins, begun_plain, settled_first}
use Rattle.pgn_games.specs.declared.played.PlacedGame.{PlacedGame}
use Rattle.pgn_games.specs.declared.token_turns.Place.TheVariants.{Before}
use Rattle.pgn_games.specs.Cutting.{cut}
use Rattle.pgn_games.specs.Games.{span_of, placed_game_of, placed_games}
use Rattle.pgn_games.specs.Order.{AreInOrder}
use Rattle.pgn_games.specs.Settling.{games_ended, settled_games}
use Rattle.pgn_games.proofs.EachToken.{none_lost, none_empty}
use Rattle.pgn_games.proofs.GameEnds.{cut_alike}

-- a piece ends within its text
bound_by : (next : Next) (stage : Stage) (word value : List ℕ) (b : ℕ) (rest : List ℕ) → FollowsAt stage next word value b
    → ((now : Stage) (word value : List ℕ) → is_plain now ≡ true → (left_of_piece now word value rest).more ≤ length rest) → (left_of_piece stage word value (b ∷ rest)).more ≤ suc (length rest)
bound_by (Stays now) stage word value b rest h later = let few = later now (word_after stage now b word) (grown_value stage now b value) h.0 in omega (arith, few, ap (λ (p : Piece). p.more) (h.2 rest))
bound_by Over stage word value b rest h later = omega (arith, ap (λ (p : Piece). p.more) (h rest))

bound : (stage : Stage) (word value rest : List ℕ) → is_plain stage ≡ true → (left_of_piece stage word value rest).more ≤ length rest
bound stage word value [] p = omega (arith, ends_there stage word value p)
bound stage word value (b ∷ rest) p = bound_by (next_stage stage b) stage word value b rest (follows stage word value b p) (λ now w v q. bound now w v rest q)

pub piece_bound : (first : Bool) (b : ℕ) (bs : List ℕ) → (piece first b bs).more ≤ length bs
piece_bound first b bs = omega (arith, bound (begun first b) (b ∷ []) [] bs (begun_plain first b), ap (λ (p : Piece). p.more) (begins first b [] bs))

-- tokens stand one behind another, from a place on and within so many bytes
unfoldable pub InOrder : ℕ → ℕ → List Placed → Type 0
InOrder low size [] = ⊤
InOrder low size (t ∷ ts) = (low ≤ t.offset) × (t.offset < t.end) × (t.end ≤ size) × InOrder t.end size ts

eased : (low low' size size' : ℕ) (ts : List Placed) → low' ≤ low → size ≤ size' → InOrder low size ts → InOrder low' size' ts
unfolding InOrder
eased low low' size size' [] p q h = tt
eased low low' size size' (t ∷ ts) p q h = (omega (arith, p, h.0), h.1, omega (arith, q, h.2), eased t.end t.end size size' ts (omega arith) q h.3)

placed_order : (at end line size : ℕ) (o : Option Token) (ts : List Placed) → at < end → end ≤ size → InOrder end size ts → InOrder (at + 0) size (placed at end line o ++ ts)
unfolding InOrder
placed_order at end line size None ts p q h = eased end (at + 0) size size ts (omega (arith, p)) (omega arith) h
placed_order at end line size (Some token) ts p q h = (omega arith, p, q, h)

after_order : (pass at line : ℕ) (first : Bool) (bs : List ℕ) → InOrder (at + pass) (at + length bs) (tokens_after pass at line first bs)
unfolding tokens_after InOrder
after_order pass at line first [] = tt
after_order (suc pass) at line first (b ∷ bs) =
    eased (at + 1 + pass) (at + suc pass) (at + 1 + length bs) (at + suc (length bs)) _ (omega arith) (omega arith) (after_order pass (at + 1) (line_after line b) (not (in_class InLine b)) bs)
after_order zero at line first (b ∷ bs) =
    let n = (piece first b bs).more in
    let few = piece_bound first b bs in
    placed_order at (at + 1 + n) line (at + suc (length bs)) (piece first b bs).token _ (omega arith) (omega (arith, few))
    (eased (at + 1 + n) (at + 1 + n) (at + 1 + length bs) (at + suc (length bs)) _ (omega arith) (omega arith) (after_order n (at + 1) (line_after line b) (not (in_class InLine b)) bs))

-- a mark has three bytes
three : (bytes : List ℕ) → has_mark bytes ≡ true → 3 + length (drop 3 bytes) ≡ length bytes
unfolding has_mark
three [] e = cc
three (a ∷ []) e = cc
three (a ∷ b ∷ []) e = cc
three (a ∷ b ∷ c ∷ bs) e = omega arith

tokens_by : (bytes : List ℕ) (mark : Bool) → has_mark bytes ≡ mark → InOrder 0 (length bytes) (if mark then tokens_after 0 3 1 true (drop 3 bytes) else tokens_after 0 0 1 true bytes)
tokens_by bytes true e = eased (3 + 0) 0 (3 + length (drop 3 bytes)) (length bytes) _ (omega arith) (omega (arith, three bytes e)) (after_order 0 3 1 true (drop 3 bytes))
tokens_by bytes false e = eased (0 + 0) 0 (0 + length bytes) (length bytes) _ (omega arith) (omega arith) (after_order 0 0 1 true bytes)

pub tokens_order : (bytes : List ℕ) → InOrder 0 (length bytes) (tokens bytes)
unfolding tokens
tokens_order bytes = tokens_by bytes (has_mark bytes) refl

-- where the last of some tokens ends
abbrev last_end : ℕ → List Placed → ℕ
last_end end ts = fold (λ end (later : Placed). later.end) end ts

behind_game : (end size : ℕ) (ts rest : List Placed) → end ≤ size → InOrder end size (ts ++ rest) → (end ≤ last_end end ts) × (last_end end ts ≤ size) × InOrder (last_end end ts) size rest
unfolding InOrder
behind_game end size [] rest p h = (omega arith, p, h)
behind_game end size (t ∷ ts) rest p h = let l = behind_game t.end size ts rest h.2 h.3 in (omega (arith, h.0, h.1, l.0), l.1, l.2)

-- the tokens of games, game behind game
abbrev joined : List (List Placed) → List Placed
joined games = flat_map (λ (game : List Placed). game) games

abbrev AllFilled : List (List Placed) → Type 0
AllFilled games = All (λ (game : List Placed). 0 < length game) games

games_order : (games : List (List Placed)) (low size : ℕ) → AllFilled games → InOrder low size (joined games) → AreInOrder low size (map placed_game_of games)
unfolding AreInOrder InOrder span_of
games_order [] low size f h = tt
games_order ([] ∷ games) low size f h = let no = All-head (λ (game : List Placed). 0 < length game) [] games f in absurd (omega (arith, no))
games_order ((t ∷ ts) ∷ games) low size f h =
    let l = behind_game t.end size ts (joined games) h.2 h.3 in
    (h.0, omega (arith, h.1, l.0), l.1, games_order games (last_end t.end ts) size (All-tail (λ (game : List Placed). 0 < length game) (t ∷ ts) games f) l.2)

pub placed_games_order : (bytes : List ℕ) → AreInOrder 0 (length bytes) (placed_games bytes)
unfolding placed_games
placed_games_order bytes =
    games_order (cut Before (tokens bytes)) 0 (length bytes) (none_empty (tokens bytes)) (subst (InOrder 0 (length bytes)) (sym (none_lost (tokens bytes))) (tokens_order bytes))

-- tokens that end before a place
abbrev EndBefore : ℕ → List Placed → Type 0
EndBefore size ts = All (λ (t : Placed). t.end < size) ts

nothing_ends : (size : ℕ) → EndBefore size []
nothing_ends size k d inside = absurd (omega arith)

later_end : (size size' : ℕ) (ts : List Placed) → size ≤ size' → EndBefore size ts → EndBefore size' ts
later_end size size' ts p h k d inside = let x = h k d inside in omega arith

is_below : (n m : ℕ) → nat_lt n m ≡ true → n < m
is_below n m e = grind (arith, nat_tests)

placed_ends : (at end line size : ℕ) (o : Option Token) (ts : List Placed) → end < size → EndBefore size ts → EndBefore size (placed at end line o ++ ts)
placed_ends at end line size None ts p h = h
placed_ends at end line size (Some token) ts p h = All-cons (λ (t : Placed). t.end < size) (record { token = token; offset = at; end = end; line = line }) ts p h

settled_by : (v : Bool) (at more line size left : ℕ) (o : Option Token) (ts : List Placed) → nat_lt more left ≡ v → at + 1 + left ≤ size → EndBefore size ts
    → EndBefore size ((if v then placed at (at + 1 + more) line o else []) ++ ts)
settled_by true at more line size left o ts e p h = placed_ends at (at + 1 + more) line size o ts (omega (arith, p, is_below more left e)) h
settled_by false at more line size left o ts e p h = h

settled_ends : (pass at line : ℕ) (first : Bool) (bs : List ℕ) → EndBefore (at + length bs) (settled_after pass at line first bs)
unfolding settled_after
settled_ends pass at line first [] = nothing_ends (at + 0)
settled_ends (suc pass) at line first (b ∷ bs) = later_end (at + 1 + length bs) (at + suc (length bs)) _ (omega arith) (settled_ends pass (at + 1) (line_after line b) (not (in_class InLine b)) bs)
settled_ends zero at line first (b ∷ bs) =
    settled_by (nat_lt (piece first b bs).more (length bs)) at (piece first b bs).more line (at + suc (length bs)) (length bs) (piece first b bs).token _ refl (omega arith)
    (later_end (at + 1 + length bs) (at + suc (length bs)) _ (omega arith) (settled_ends (piece first b bs).more (at + 1) (line_after line b) (not (in_class InLine b)) bs))

ends_by : (bytes : List ℕ) (half mark : Bool) → has_mark bytes ≡ mark
    → EndBefore (length bytes) (if half then [] else (if mark then settled_after 0 3 1 true (drop 3 bytes) else settled_after 0 0 1 true bytes))
ends_by bytes true mark e = nothing_ends (length bytes)
ends_by bytes false true e = later_end (3 + length (drop 3 bytes)) (length bytes) _ (omega (arith, three bytes e)) (settled_ends 0 3 1 true (drop 3 bytes))
ends_by bytes false false e = later_end (0 + length bytes) (length bytes) _ (omega arith) (settled_ends 0 0 1 true bytes)

tokens_end : (bytes : List ℕ) → EndBefore (length bytes) (settled_tokens bytes)
unfolding settled_tokens
tokens_end bytes = ends_by bytes (has_half_mark bytes) (has_mark bytes) refl

-- so the games that they make up
game_ends : (end size : ℕ) (ts rest : List Placed) → end < size → EndBefore size (ts ++ rest) → (last_end end ts < size) × EndBefore size rest
game_ends end size [] rest p h = (p, h)
game_ends end size (t ∷ ts) rest p h =
    game_ends t.end size ts rest (All-head (λ (t : Placed). t.end < size) t (ts ++ rest) h) (All-tail (λ (t : Placed). t.end < size) t (ts ++ rest) h)

games_end : (games : List (List Placed)) (size n : ℕ) (game : PlacedGame) → AllFilled games → EndBefore size (joined games) → slice_get (map placed_game_of games) n ≡ Some game → game.span.end < size
unfolding span_of
games_end [] size n game f h e = cc
games_end ([] ∷ games) size n game f h e = let no = All-head (λ (game : List Placed). 0 < length game) [] games f in absurd (omega (arith, no))
games_end ((t ∷ ts) ∷ games) size zero game f h e =
    let same : placed_game_of (t ∷ ts) ≡ game = cc in
    let l = game_ends t.end size ts (joined games) (All-head (λ (t : Placed). t.end < size) t (ts ++ joined games) h) (All-tail (λ (t : Placed). t.end < size) t (ts ++ joined games) h) in
    omega (arith, l.0, ap (λ (g : PlacedGame). g.span.end) same)
games_end ((t ∷ ts) ∷ games) size (suc n) game f h e =
    let l = game_ends t.end size ts (joined games) (All-head (λ (t : Placed). t.end < size) t (ts ++ joined games) h) (All-tail (λ (t : Placed). t.end < size) t (ts ++ joined games) h) in
    games_end games size n game (All-tail (λ (game : List Placed). 0 < length game) (t ∷ ts) games f) l.1 e

-- an item of the first ones
pub of_first : {A : Type 0} (xs : List A) (k n : ℕ) → n < k → slice_get (take k xs) n ≡ slice_get xs n
of_first [] zero n p = refl
of_first [] (suc k) n p = refl
of_first (x ∷ xs) zero n p = absurd (omega arith)
of_first (x ∷ xs) (suc k) zero p = refl
of_first (x ∷ xs) (suc k) (suc n) p = of_first xs k n (omega arith)

pub settled_before : (bytes : List ℕ) (n : ℕ) (game : PlacedGame) → n < settled_games bytes → slice_get (placed_games bytes) n ≡ Some game → game.span.end < length bytes
unfolding placed_games settled_games
settled_before bytes n game p e =
    let xs = settled_tokens bytes in
    let k = games_ended Before xs in
    let gs = cut Before (xs ++ []) in
    let whole : tokens bytes ≡ xs ++ _ = ap tokens (sym (append-nil bytes)) ∙ settled_first bytes [] in
    let same : take k (map placed_game_of (cut Before (tokens bytes))) ≡ take k (map placed_game_of gs) =
    take-map placed_game_of k (cut Before (tokens bytes)) ∙ ap (λ ts. map placed_game_of (take k (cut Before ts))) whole ∙ ap (map placed_game_of) (cut_alike Before xs _ []) ∙ sym (take-map placed_game_of k gs) in
    let there : slice_get (map placed_game_of gs) n ≡ Some game =
    sym (of_first (map placed_game_of gs) k n p) ∙ ap (λ ps. slice_get ps n) (sym same) ∙ of_first (map placed_game_of (cut Before (tokens bytes))) k n p ∙ e in
    games_end gs (length bytes) n game (none_empty (xs ++ [])) (subst (EndBefore (length bytes)) (sym (none_lost (xs ++ []) ∙ append-nil xs)) (tokens_end bytes)) there
