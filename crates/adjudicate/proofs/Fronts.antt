-- What is written of the first games: more bytes change nothing of it, and one game more adds its piece.
use Rattle.std.proofs.Common.{◌≡◌, ℕ, ◌≤◌, Bool, true, false, List, [], ◌∷◌, ◌++◌, length, map, take, drop, Option, Some, None, slice_get, refl, sym, ap, ◌∙◌, arith, append-nil, append_assoc}
use Rattle.std.proofs.lemmas.List.{length-map, map-append, take-append-le}
use Rattle.pgn_games.specs.declared.marks.ResultMark.{ResultMark}
use Rattle.pgn_games.specs.declared.played.PlacedGame.{PlacedGame}
use Rattle.pgn_games.specs.Games.{placed_games}
use Rattle.pgn_games.specs.Order.{AreInOrder}
use Rattle.pgn_games.specs.Settling.{settled_games}
use Rattle.pgn_games.proofs.InOrder.{placed_games_order}
use Rattle.pgn_results.specs.Correcting.{written_games, piece_of, end_of}
use Rattle.pgn_results.specs.Keeping.{changed_piece}
use Rattle.pgn_results.specs.Keeping.{piece_of as piece_at}
use Rattle.pgn_results.specs.Replacing.{game_with_mark}
use Rattle.pgn_results.proofs.GameByGame.{same_first, written_settled, written_more}
use Rattle.cha_outcome.specs.declared.outcomes.Outcome.{Outcome}
use Rattle.cha_outcome.specs.Outcomes.{new_result}
use Rattle.adjudicate.specs.Corrections.{changed_games, corrected_front}
use Rattle.item_batches.specs.Pieces.{game_piece}

none_changed : (bytes : List ℕ) (games : List PlacedGame) → changed_games bytes games [] ≡ []
unfolding changed_games
none_changed bytes [] = refl
none_changed bytes (game ∷ games) = refl

none_written : (bytes : List ℕ) (games : List PlacedGame) → written_games 0 bytes games [] ≡ []
unfolding written_games
none_written bytes [] = refl
none_written bytes (game ∷ games) = refl

-- of no outcomes nothing is written
pub front_of_none : (changed : Bool) (bytes : List ℕ) → corrected_front changed bytes [] ≡ []
front_of_none true bytes = none_changed bytes (placed_games bytes)
front_of_none false bytes = none_written bytes (placed_games bytes)

-- only so many games count as there are marks
counted : (games : List PlacedGame) (marks : List (Option ResultMark)) (bytes : List ℕ) → changed_games bytes games marks ≡ changed_games bytes (take (length marks) games) marks
unfolding changed_games
counted [] [] bytes = refl
counted [] (mark ∷ marks) bytes = refl
counted (game ∷ games) [] bytes = refl
counted (game ∷ games) (None ∷ marks) bytes = counted games marks bytes
counted (game ∷ games) (Some mark ∷ marks) bytes = ap (λ ys. changed_piece bytes game.span (Some mark) ++ ys) (counted games marks bytes)

same_changed : (games : List PlacedGame) (marks : List (Option ResultMark)) (low : ℕ) (bytes rest : List ℕ) → AreInOrder low (length bytes) games → changed_games (bytes ++ rest) games marks ≡ changed_games bytes games marks
unfolding changed_games AreInOrder
same_changed [] marks low bytes rest h = refl
same_changed (game ∷ games) [] low bytes rest h = refl
same_changed (game ∷ games) (None ∷ marks) low bytes rest h = same_changed games marks game.span.end bytes rest h.3
same_changed (game ∷ games) (Some mark ∷ marks) low bytes rest h =
    ap (λ ys. (game_with_mark mark (drop game.span.start ys) [] ++ 10 ∷ 10 ∷ []) ++ changed_games (bytes ++ rest) games marks) (take-append-le game.span.end bytes rest h.2)
    ∙ ap (λ ys. changed_piece bytes game.span (Some mark) ++ ys) (same_changed games marks game.span.end bytes rest h.3)

-- where the games are settled, more bytes change nothing of those that change
changed_settled : (bytes rest : List ℕ) (marks : List (Option ResultMark)) → length marks ≤ settled_games bytes
    → changed_games (bytes ++ rest) (placed_games (bytes ++ rest)) marks ≡ changed_games bytes (placed_games bytes) marks
changed_settled bytes rest marks p =
    counted (placed_games (bytes ++ rest)) marks (bytes ++ rest) ∙ ap (λ gs. changed_games (bytes ++ rest) gs marks) (same_first bytes rest (length marks) p)
    ∙ sym (counted (placed_games bytes) marks (bytes ++ rest)) ∙ same_changed (placed_games bytes) marks 0 bytes rest (placed_games_order bytes)

changed_more : (games : List PlacedGame) (marks : List (Option ResultMark)) (bytes : List ℕ) (mark : Option ResultMark) (game : PlacedGame) → slice_get games (length marks) ≡ Some game
    → changed_games bytes games (marks ++ mark ∷ []) ≡ changed_games bytes games marks ++ changed_piece bytes game.span mark
unfolding changed_games
changed_more [] marks bytes mark game e = cc
changed_more (g ∷ games) [] bytes None game e = none_changed bytes games
changed_more (g ∷ games) [] bytes (Some mark) game e =
    let same : g ≡ game = cc in
    let own = changed_piece bytes g.span (Some mark) in
    ap (λ ys. own ++ ys) (none_changed bytes games) ∙ append-nil own ∙ ap (λ (x : PlacedGame). changed_piece bytes x.span (Some mark)) same
changed_more (g ∷ games) (None ∷ marks) bytes mark game e = changed_more games marks bytes mark game e
changed_more (g ∷ games) (Some m ∷ marks) bytes mark game e =
    let front = changed_piece bytes g.span (Some m) in
    ap (λ ys. front ++ ys) (changed_more games marks bytes mark game e) ∙ sym (append_assoc front (changed_games bytes games marks) (changed_piece bytes game.span mark))

-- a game's piece under both of its names
same_pieces : (start : ℕ) (bytes : List ℕ) (mark : Option ResultMark) (game : PlacedGame) → piece_of start bytes mark game ≡ piece_at bytes start game.span mark
unfolding piece_of
same_pieces start bytes None game = refl
same_pieces start bytes (Some mark) game = refl

few_results : (os : List Outcome) (n : ℕ) → length os ≤ n → length (map new_result os) ≤ n
few_results os n p = omega (arith, p, length-map os new_result)

pub front_settled : (changed : Bool) (bytes rest : List ℕ) (os : List Outcome) → length os ≤ settled_games bytes → corrected_front changed (bytes ++ rest) os ≡ corrected_front changed bytes os
front_settled true bytes rest os p = changed_settled bytes rest (map new_result os) (few_results os _ p)
front_settled false bytes rest os p = written_settled bytes rest (map new_result os) (few_results os _ p)

pub front_more : (changed : Bool) (bytes : List ℕ) (os : List Outcome) (o : Outcome) (game : PlacedGame) → slice_get (placed_games bytes) (length os) ≡ Some game
    → corrected_front changed bytes (os ++ o ∷ []) ≡ corrected_front changed bytes os ++ game_piece changed bytes (end_of 0 (take (length os) (placed_games bytes))) game.span (new_result o)
front_more true bytes os o game e =
    let games = placed_games bytes in
    let marks = map new_result os in
    let size : length marks ≡ length os = length-map os new_result in
    ap (changed_games bytes games) (map-append new_result os (o ∷ [])) ∙ changed_more games marks bytes (new_result o) game (ap (slice_get games) size ∙ e)
front_more false bytes os o game e =
    let games = placed_games bytes in
    let marks = map new_result os in
    let size : length marks ≡ length os = length-map os new_result in
    ap (written_games 0 bytes games) (map-append new_result os (o ∷ [])) ∙ written_more games marks 0 bytes (new_result o) game (ap (slice_get games) size ∙ e)
    ∙ ap (λ ys. written_games 0 bytes games marks ++ ys) (same_pieces (end_of 0 (take (length marks) games)) bytes (new_result o) game ∙ ap (λ n. piece_at bytes (end_of 0 (take n games)) game.span (new_result o)) size)
