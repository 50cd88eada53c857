-- The games that are settled.
use Rattle.std.proofs.Common.{◌≡◌, ℕ, ◌+◌, ◌<◌, ◌≤◌, List, [], ◌∷◌, ◌++◌, Some, length, take, drop, map, sym, ap, ◌∙◌, arith, append-nil, append_assoc}
use Rattle.std.proofs.lemmas.List.{length-map, take-map, drop_all}
use Rattle.pgn_lex.specs.declared.kinds.Placed.{Placed}
use Rattle.pgn_lex.specs.Tokens.{tokens, settled_tokens}
use Rattle.pgn_lex.proofs.Feeding.{settled_more}
use Rattle.pgn_games.specs.declared.token_turns.Place.{Place}
use Rattle.pgn_games.specs.declared.token_turns.Place.TheVariants.{Before}
use Rattle.pgn_games.specs.Cutting.{turn, place_after, cut}
use Rattle.pgn_games.specs.Games.{placed_game_of, placed_games}
use Rattle.pgn_games.specs.Settling.{games_ended, settled_games}
use Rattle.pgn_games.specs.Holding.{first_end, IsCut}
use Rattle.pgn_games.proofs.GameEnds.{cut_alike, ended_are_there, closes}

-- settled tokens are the first ones
abbrev pub AreFirst : Type 0
AreFirst = (bytes rest : List ℕ) → (later : List Placed) × (tokens (bytes ++ rest) ≡ settled_tokens bytes ++ later)

pub settled_there : AreFirst → (bytes rest : List ℕ) → settled_games bytes ≤ length (placed_games (bytes ++ rest))
unfolding settled_games placed_games
settled_there first bytes rest =
    let h = first bytes rest in
    omega (arith, length-map (cut Before (tokens (bytes ++ rest))) placed_game_of, ap (λ ts. length (cut Before ts)) h.1, ended_are_there Before (settled_tokens bytes) h.0)

settled_cut : AreFirst → (bytes rest : List ℕ) → take (settled_games bytes) (placed_games (bytes ++ rest)) ≡ map placed_game_of (take (games_ended Before (settled_tokens bytes)) (cut Before (settled_tokens bytes ++ [])))
unfolding settled_games placed_games
settled_cut first bytes rest =
    let h = first bytes rest in
    let n = games_ended Before (settled_tokens bytes) in
    take-map placed_game_of n (cut Before (tokens (bytes ++ rest))) ∙ ap (λ ts. map placed_game_of (take n (cut Before ts))) h.1 ∙ ap (map placed_game_of) (cut_alike Before (settled_tokens bytes) h.0 [])

pub settled_same : AreFirst → (bytes rest : List ℕ) → take (settled_games bytes) (placed_games (bytes ++ rest)) ≡ take (settled_games bytes) (placed_games bytes)
settled_same first bytes rest =
    settled_cut first bytes rest ∙ sym (ap (λ bs. take (settled_games bytes) (placed_games bs)) (sym (append-nil bytes)) ∙ settled_cut first bytes [])

-- more bytes settle more tokens
pub settled_prefix : (bytes rest : List ℕ) → (later : List Placed) × (settled_tokens (bytes ++ rest) ≡ settled_tokens bytes ++ later)
settled_prefix bytes [] = ([], ap settled_tokens (append-nil bytes) ∙ sym (append-nil (settled_tokens bytes)))
settled_prefix bytes (b ∷ rest) =
    let more = settled_prefix (bytes ++ b ∷ []) rest in
    let one = settled_more bytes b in
    (_, ap settled_tokens (sym (append_assoc bytes (b ∷ []) rest)) ∙ more.1 ∙ ap (λ ts. ts ++ more.0) one ∙ append_assoc (settled_tokens bytes) _ more.0)

-- and more tokens end more games
pub ended_more : (place : Place) (xs ys : List Placed) → games_ended place xs ≤ games_ended place (xs ++ ys)
unfolding games_ended
ended_more place [] ys = omega arith
ended_more place (x ∷ xs) ys =
    let u = turn place x.token in
    omega (arith, ended_more (place_after u) xs ys)

pub settled_grow : (bytes rest : List ℕ) → settled_games bytes ≤ settled_games (bytes ++ rest)
unfolding settled_games
settled_grow bytes rest =
    let h = settled_prefix bytes rest in
    omega (arith, ap (games_ended Before) h.1, ended_more Before (settled_tokens bytes) h.0)

-- a game that is whole is settled
pub game_settled : (fed rest bytes : List ℕ) (game behind : List Placed) (given : ℕ) → IsCut (settled_tokens fed) (game ++ behind) given → first_end Before (game ++ behind) ≡ Some (length game) → bytes ≡ fed ++ rest
    → given < settled_games bytes
unfolding settled_games
game_settled fed rest bytes game behind given h whole e =
    let count : games_ended Before (settled_tokens fed) ≡ given + games_ended Before ((game ++ behind) ++ []) = ap (games_ended Before) (sym (append-nil (settled_tokens fed))) ∙ h.counts [] in
    let one = (closes Before (game ++ behind) (length game) [] whole).1 in
    omega (arith, ap settled_games e, settled_grow fed rest, count, one)

-- nothing is left of a piece that is used up
pub none_left : (fed piece : List ℕ) (used : ℕ) → used ≡ length piece → fed ++ drop used piece ≡ fed
none_left fed piece used e = ap (λ xs. fed ++ xs) (drop_all used piece (omega (arith, e))) ∙ append-nil fed
