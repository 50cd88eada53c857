-- Each token is in one game.
use Rattle.std.proofs.Common.{◌≡◌, ◌<◌, List, [], ◌∷◌, length, drop, refl, sym, ap, ◌∙◌, subst, arith}
use Rattle.std.specs.List.{flat_map, All}
use Rattle.std.proofs.lemmas.List.Elements.{All-cons, All-tail}
use Rattle.pgn_lex.specs.declared.kinds.Placed.{Placed}
use Rattle.pgn_games.specs.declared.token_turns.Place.{Place}
use Rattle.pgn_games.specs.declared.token_turns.Place.TheVariants.{Before, Tags, Moves}
use Rattle.pgn_games.specs.declared.token_turns.Turn.{Turn}
use Rattle.pgn_games.specs.declared.token_turns.Turn.TheVariants.{Stays, Ends, Begins}
use Rattle.pgn_games.specs.Cutting.{turn, place_after, onto, put, cut}
use Rattle.pgn_games.proofs.Cuts.{cut_step, tag_begins}

-- the tokens of games, game behind game
abbrev joined : List (List Placed) → List Placed
joined games = flat_map (λ (game : List Placed). game) games

joined_onto : (t : Placed) (games : List (List Placed)) → joined (onto t games) ≡ t ∷ joined games
joined_onto t [] = refl
joined_onto t (game ∷ games) = refl

joined_put : (u : Turn) (t : Placed) (games : List (List Placed)) → joined (put u t games) ≡ t ∷ joined games
joined_put (Stays place) t games = joined_onto t games
joined_put Ends t games = refl
joined_put Begins t games = joined_onto t games

none_lost_from : (place : Place) (ts : List Placed) → joined (cut place ts) ≡ ts
unfolding cut
none_lost_from Before [] = refl
none_lost_from Tags [] = refl
none_lost_from (Moves depth) [] = refl
none_lost_from place (t ∷ ts) =
    let u = turn place t.token in
    ap (λ games. joined games) (cut_step place t ts) ∙ joined_put u t (cut (place_after u) ts) ∙ ap (λ xs. t ∷ xs) (none_lost_from (place_after u) ts)

pub none_lost : (ts : List Placed) → flat_map (λ (game : List Placed). game) (cut Before ts) ≡ ts
none_lost ts = none_lost_from Before ts

-- each game has a token
abbrev AllFilled : List (List Placed) → Type 0
AllFilled games = All (λ (game : List Placed). 0 < length game) games

nothing_filled : AllFilled []
nothing_filled k d inside = absurd (omega arith)

later_filled : (games : List (List Placed)) → AllFilled games → AllFilled (drop 1 games)
later_filled [] h = nothing_filled
later_filled (game ∷ games) h = All-tail (λ (game : List Placed). 0 < length game) game games h

-- at a place within a game the first of the games may yet be empty
abbrev FilledFrom : Place → List (List Placed) → Type 0
FilledFrom Before games = AllFilled games
FilledFrom Tags games = AllFilled (drop 1 games)
FilledFrom (Moves depth) games = AllFilled (drop 1 games)

later_from : (place : Place) (games : List (List Placed)) → FilledFrom place games → AllFilled (drop 1 games)
later_from Before games h = later_filled games h
later_from Tags games h = h
later_from (Moves depth) games h = h

all_from : (place : Place) (games : List (List Placed)) → AllFilled games → FilledFrom place games
all_from Before games h = h
all_from Tags games h = later_filled games h
all_from (Moves depth) games h = later_filled games h

onto_filled : (t : Placed) (games : List (List Placed)) → AllFilled (drop 1 games) → AllFilled (onto t games)
onto_filled t [] h = All-cons (λ (game : List Placed). 0 < length game) (t ∷ []) [] (omega arith) nothing_filled
onto_filled t (game ∷ games) h = All-cons (λ (game : List Placed). 0 < length game) (t ∷ game) games (omega arith) h

begun_from : (place : Place) (games : List (List Placed)) → (place ≡ Before → ⊥) → AllFilled games → FilledFrom place ([] ∷ games)
begun_from Before games never h = absurd (never refl)
begun_from Tags games never h = h
begun_from (Moves depth) games never h = h

put_filled : (place : Place) (u : Turn) (t : Placed) (games : List (List Placed)) → (place ≡ Before → u ≡ Begins → ⊥)
    → FilledFrom (place_after u) games → FilledFrom place (put u t games)
put_filled place (Stays next) t games never h = all_from place (onto t games) (onto_filled t games (later_from next games h))
put_filled place Ends t games never h =
    all_from place ((t ∷ []) ∷ games) (All-cons (λ (game : List Placed). 0 < length game) (t ∷ []) games (omega arith) h)
put_filled place Begins t games never h = begun_from place (onto t games) (λ e. never e refl) (onto_filled t games h)

-- before a game nothing begins the next one
none_begins : (place : Place) (t : Placed) → place ≡ Before → turn place t.token ≡ Begins → ⊥
none_begins place t e f =
    let here : turn Before t.token ≡ Begins = rw e at f in
    let stays = tag_begins place t.token f in
    cc

filled_from : (place : Place) (ts : List Placed) → FilledFrom place (cut place ts)
unfolding cut
filled_from Before [] = nothing_filled
filled_from Tags [] = nothing_filled
filled_from (Moves depth) [] = nothing_filled
filled_from place (t ∷ ts) =
    let u = turn place t.token in
    subst (FilledFrom place) (sym (cut_step place t ts)) (put_filled place u t (cut (place_after u) ts) (none_begins place t) (filled_from (place_after u) ts))

pub none_empty : (ts : List Placed) → All (λ (game : List Placed). 0 < length game) (cut Before ts)
none_empty ts = filled_from Before ts
