-- What is written game by game.
use Rattle.std.proofs.Common.{◌≡◌, ℕ, zero, suc, ◌+◌, ◌<◌, ◌≤◌, ◌&&◌, false, if◌then◌else◌, List, [], ◌∷◌, ◌++◌, Option, Some, None, length, take, drop, slice_get, refl, sym, ap, ◌∙◌, subst, arith, append-nil, append_assoc}
use Rattle.std.specs.Bool.{⊤}
use Rattle.std.proofs.lemmas.List.{take-append-drop, take-append-le}
use Rattle.pgn_lex.specs.Tokens.{tokens}
use Rattle.pgn_lex.proofs.Feeding.{settled_first}
use Rattle.pgn_games.specs.declared.marks.ResultMark.{ResultMark}
use Rattle.pgn_games.specs.declared.played.PlacedGame.{PlacedGame}
use Rattle.pgn_games.specs.Games.{placed_games}
use Rattle.pgn_games.specs.Order.{AreInOrder}
use Rattle.pgn_games.specs.Settling.{settled_games}
use Rattle.pgn_games.proofs.InOrder.{placed_games_order, settled_before}
use Rattle.pgn_games.proofs.Settled.{AreFirst, settled_same}
use Rattle.pgn_results.specs.Replacing.{begins_word, with_mark, is_word, has_result, game_with_mark}
use Rattle.pgn_results.specs.Correcting.{between, written, piece_of, written_games, end_of}

-- bytes between places
two_parts : (a b : ℕ) (xs : List ℕ) → a ≤ b → drop a xs ≡ drop a (take b xs) ++ drop b xs
two_parts zero b xs p = sym (take-append-drop b xs)
two_parts (suc a) zero xs p = absurd (omega (arith, p))
two_parts (suc a) (suc b) [] p = refl
two_parts (suc a) (suc b) (x ∷ xs) p = two_parts a b xs (omega (arith, p))

first_of : {A : Type 0} (b c : ℕ) (xs : List A) → b ≤ c → take b (take c xs) ≡ take b xs
first_of zero c xs p = refl
first_of (suc b) zero xs p = absurd (omega (arith, p))
first_of (suc b) (suc c) [] p = refl
first_of (suc b) (suc c) (x ∷ xs) p = ap (λ ys. x ∷ ys) (first_of b c xs (omega (arith, p)))

between_two : (a b c : ℕ) (bytes : List ℕ) → a ≤ b → b ≤ c → between a c bytes ≡ between a b bytes ++ between b c bytes
between_two a b c bytes p q = two_parts a b (take c bytes) p ∙ ap (λ ys. drop a ys ++ between b c bytes) (first_of b c bytes q)

sooner : (low low' size : ℕ) (games : List PlacedGame) → low' ≤ low → AreInOrder low size games → AreInOrder low' size games
unfolding AreInOrder
sooner low low' size [] p h = tt
sooner low low' size (game ∷ games) p h = (omega (arith, p, h.0), h.1, h.2, h.3)

-- a text that is written from a place on goes on from a later one before its games
ahead : (games : List PlacedGame) (marks : List (Option ResultMark)) (start later size : ℕ) (bytes : List ℕ) → AreInOrder later size games → start ≤ later
    → written start bytes games marks ≡ between start later bytes ++ written later bytes games marks
unfolding written AreInOrder
ahead [] marks start later size bytes h p = two_parts start later bytes p
ahead (game ∷ games) [] start later size bytes h p = two_parts start later bytes p
ahead (game ∷ games) (None ∷ marks) start later size bytes h p = ahead games marks start later size bytes (sooner game.span.end later size games (omega (arith, h.0, h.1)) h.3) p
ahead (game ∷ games) (Some mark ∷ marks) start later size bytes h p =
    let rest = game_with_mark mark (between game.span.start game.span.end bytes) (drop game.span.end bytes) ++ written game.span.end bytes games marks in
    ap (λ ys. ys ++ rest) (between_two start later game.span.start bytes p h.0) ∙ append_assoc (between start later bytes) (between later game.span.start bytes) rest

-- what is written of the games is the front of the whole
front_from : (games : List PlacedGame) (marks : List (Option ResultMark)) (start size : ℕ) (bytes : List ℕ) → AreInOrder start size games
    → written start bytes games marks ≡ written_games start bytes games marks ++ drop (end_of start (take (length marks) games)) bytes
unfolding written written_games piece_of AreInOrder
front_from [] [] start size bytes h = refl
front_from [] (mark ∷ marks) start size bytes h = refl
front_from (game ∷ games) [] start size bytes h = refl
front_from (game ∷ games) (None ∷ marks) start size bytes h =
    let end = game.span.end in
    let front = between start end bytes in
    ahead games marks start end size bytes h.3 (omega (arith, h.0, h.1)) ∙ ap (λ ys. front ++ ys) (front_from games marks end size bytes h.3)
    ∙ sym (append_assoc front (written_games end bytes games marks) (drop (end_of end (take (length marks) games)) bytes))
front_from (game ∷ games) (Some mark ∷ marks) start size bytes h =
    let end = game.span.end in
    let front = between start game.span.start bytes in
    let changed = game_with_mark mark (between game.span.start end bytes) (drop end bytes) in
    let rest = drop (end_of end (take (length marks) games)) bytes in
    ap (λ ys. front ++ (changed ++ ys)) (front_from games marks end size bytes h.3) ∙ sym (append_assoc front changed (written_games end bytes games marks ++ rest))
    ∙ sym (append_assoc (front ++ changed) (written_games end bytes games marks) rest)

pub written_front : (bytes : List ℕ) (marks : List (Option ResultMark))
    → written 0 bytes (placed_games bytes) marks ≡ written_games 0 bytes (placed_games bytes) marks ++ drop (end_of 0 (take (length marks) (placed_games bytes))) bytes
written_front bytes marks = front_from (placed_games bytes) marks 0 (length bytes) bytes (placed_games_order bytes)

-- only so many games count as there is word of
counted : (games : List PlacedGame) (marks : List (Option ResultMark)) (start : ℕ) (bytes : List ℕ) → written_games start bytes games marks ≡ written_games start bytes (take (length marks) games) marks
unfolding written_games
counted [] [] start bytes = refl
counted [] (mark ∷ marks) start bytes = refl
counted (game ∷ games) [] start bytes = refl
counted (game ∷ games) (mark ∷ marks) start bytes = ap (λ ys. piece_of start bytes mark game ++ ys) (counted games marks game.span.end bytes)

-- games that end before a text does
unfoldable pub EndInside : ℕ → List PlacedGame → Type 0
EndInside size [] = ⊤
EndInside size (game ∷ games) = (game.span.start ≤ size) × (game.span.end < size) × EndInside size games

end_inside : (games : List PlacedGame) (n low size : ℕ) → AreInOrder low size games → ((k : ℕ) (game : PlacedGame) → k < n → slice_get games k ≡ Some game → game.span.end < size) → EndInside size (take n games)
unfolding EndInside AreInOrder
end_inside [] zero low size h ends = tt
end_inside [] (suc n) low size h ends = tt
end_inside (game ∷ games) zero low size h ends = tt
end_inside (game ∷ games) (suc n) low size h ends =
    (omega (arith, h.1, h.2), ends 0 game (omega arith) refl, end_inside games n game.span.end size h.3 (λ k later p e. ends (suc k) later (omega (arith, p)) e))

begins_same : (n : ℕ) (bytes rest : List ℕ) → n < length bytes → begins_word (drop n (bytes ++ rest)) ≡ begins_word (drop n bytes)
begins_same n [] rest p = absurd (omega (arith, p))
begins_same zero (b ∷ bytes) rest p = refl
begins_same (suc n) (b ∷ bytes) rest p = begins_same n bytes rest (omega (arith, p))

same_between : (a b : ℕ) (bytes rest : List ℕ) → b ≤ length bytes → between a b (bytes ++ rest) ≡ between a b bytes
same_between a b bytes rest p = ap (drop a) (take-append-le b bytes rest p)

same_piece : (mark : Option ResultMark) (game : PlacedGame) (start : ℕ) (bytes rest : List ℕ) → game.span.start ≤ length bytes → game.span.end < length bytes
    → piece_of start (bytes ++ rest) mark game ≡ piece_of start bytes mark game
unfolding piece_of
same_piece None game start bytes rest p q = same_between start game.span.end bytes rest (omega (arith, q))
same_piece (Some mark) game start bytes rest p q =
    let own = between game.span.start game.span.end bytes in
    let behind = drop game.span.end (bytes ++ rest) in
    let front = between start game.span.start bytes in
    ap (λ ys. ys ++ game_with_mark mark (between game.span.start game.span.end (bytes ++ rest)) behind) (same_between start game.span.start bytes rest p)
    ∙ ap (λ ys. front ++ game_with_mark mark ys behind) (same_between game.span.start game.span.end bytes rest (omega (arith, q)))
    ∙ ap (λ b. front ++ (with_mark false 0 mark (tokens own) own ++ (if has_result (tokens own) && (is_word mark && b) then 32 ∷ [] else []))) (begins_same game.span.end bytes rest q)

same_written : (games : List PlacedGame) (marks : List (Option ResultMark)) (start : ℕ) (bytes rest : List ℕ) → EndInside (length bytes) games → written_games start (bytes ++ rest) games marks ≡ written_games start bytes games marks
unfolding written_games EndInside
same_written [] marks start bytes rest h = refl
same_written (game ∷ games) [] start bytes rest h = refl
same_written (game ∷ games) (mark ∷ marks) start bytes rest h =
    ap (λ ys. ys ++ written_games game.span.end (bytes ++ rest) games marks) (same_piece mark game start bytes rest h.0 h.1)
    ∙ ap (λ ys. piece_of start bytes mark game ++ ys) (same_written games marks game.span.end bytes rest h.2)

-- the first games that are settled are the same, whatever follows
pub same_first : (bytes rest : List ℕ) (n : ℕ) → n ≤ settled_games bytes → take n (placed_games (bytes ++ rest)) ≡ take n (placed_games bytes)
same_first bytes rest n p =
    let first : AreFirst = λ bs more. (_, settled_first bs more) in
    sym (first_of n (settled_games bytes) (placed_games (bytes ++ rest)) p) ∙ ap (take n) (settled_same first bytes rest) ∙ first_of n (settled_games bytes) (placed_games bytes) p

-- so more bytes change nothing of what is written
pub written_settled : (bytes rest : List ℕ) (marks : List (Option ResultMark)) → length marks ≤ settled_games bytes
    → written_games 0 (bytes ++ rest) (placed_games (bytes ++ rest)) marks ≡ written_games 0 bytes (placed_games bytes) marks
written_settled bytes rest marks p =
    let n = length marks in
    let games = take n (placed_games bytes) in
    let inside : EndInside (length bytes) games = end_inside (placed_games bytes) n 0 (length bytes) (placed_games_order bytes) (λ k game q e. settled_before bytes k game (omega (arith, p, q)) e) in
    counted (placed_games (bytes ++ rest)) marks 0 (bytes ++ rest) ∙ ap (λ gs. written_games 0 (bytes ++ rest) gs marks) (same_first bytes rest n p)
    ∙ same_written games marks 0 bytes rest inside ∙ sym (counted (placed_games bytes) marks 0 bytes)

-- one game more
none_more : (games : List PlacedGame) (start : ℕ) (bytes : List ℕ) → written_games start bytes games [] ≡ []
unfolding written_games
none_more [] start bytes = refl
none_more (game ∷ games) start bytes = refl

pub written_more : (games : List PlacedGame) (marks : List (Option ResultMark)) (start : ℕ) (bytes : List ℕ) (mark : Option ResultMark) (game : PlacedGame) → slice_get games (length marks) ≡ Some game
    → written_games start bytes games (marks ++ mark ∷ []) ≡ written_games start bytes games marks ++ piece_of (end_of start (take (length marks) games)) bytes mark game
unfolding written_games
written_more [] marks start bytes mark game e = cc
written_more (g ∷ games) [] start bytes mark game e =
    let same : g ≡ game = cc in
    ap (λ ys. piece_of start bytes mark g ++ ys) (none_more games g.span.end bytes) ∙ append-nil (piece_of start bytes mark g) ∙ ap (piece_of start bytes mark) same
written_more (g ∷ games) (m ∷ marks) start bytes mark game e =
    let front = piece_of start bytes m g in
    ap (λ ys. front ++ ys) (written_more games marks g.span.end bytes mark game e)
    ∙ sym (append_assoc front (written_games g.span.end bytes games marks) (piece_of (end_of g.span.end (take (length marks) games)) bytes mark game))

-- where a game stands behind those before it
pub end_more : (games : List PlacedGame) (n start : ℕ) (game : PlacedGame) → slice_get games n ≡ Some game → end_of start (take (n + 1) games) ≡ game.span.end
end_more [] n start game e = cc
end_more (g ∷ games) zero start game e = let same : g ≡ game = cc in ap (λ (x : PlacedGame). x.span.end) same
end_more (g ∷ games) (suc n) start game e = let f : suc n + 1 ≡ suc (n + 1) = omega arith in ap (λ k. end_of start (take k (g ∷ games))) f ∙ end_more games n g.span.end game e

pub stands_behind : (games : List PlacedGame) (n low size : ℕ) (game : PlacedGame) → AreInOrder low size games → slice_get games n ≡ Some game
    → (end_of low (take n games) ≤ game.span.start) × (game.span.start < game.span.end) × (game.span.end ≤ size)
unfolding AreInOrder
stands_behind [] n low size game h e = cc
stands_behind (g ∷ games) zero low size game h e =
    let same : g ≡ game = cc in
    subst (λ (x : PlacedGame). (low ≤ x.span.start) × (x.span.start < x.span.end) × (x.span.end ≤ size)) same (h.0, h.1, h.2)
stands_behind (g ∷ games) (suc n) low size game h e = stands_behind games n g.span.end size game h.3 e
