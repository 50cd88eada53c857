-- The games of a text behind a closed one.
use Rattle.std.proofs.Common.{◌≡◌, ◌⊎◌, inl, inr, ℕ, ◌<◌, ◌==◌, ◌&&◌, Bool, true, false, if◌then◌else◌, List, [], ◌∷◌, ◌++◌, length, map, refl, sym, ap, ◌∙◌}
use Rattle.std.specs.List.{All}
use Rattle.std.proofs.lemmas.List.{map-append}
use Rattle.std.proofs.lemmas.List.Elements.{All-head, All-tail}
use Rattle.std.proofs.lemmas.List.Sums.{fold-append, fold_push}
use Rattle.pgn_lex.specs.declared.kinds.Token.{Token}
use Rattle.pgn_lex.specs.declared.kinds.Token.TheVariants.{Unclosed}
use Rattle.pgn_lex.specs.declared.kinds.Placed.{Placed}
use Rattle.pgn_lex.specs.Lines.{line_feeds, ends_line}
use Rattle.pgn_lex.specs.Tokens.{has_mark, tokens}
use Rattle.pgn_lex.proofs.Joining.{moved_token, LeftOpen, Joins, joined_tokens, joined_line}
use Rattle.pgn_games.specs.declared.token_turns.Place.{Place}
use Rattle.pgn_games.specs.declared.token_turns.Place.TheVariants.{Before, Tags, Moves}
use Rattle.pgn_games.specs.declared.token_turns.Turn.{Turn}
use Rattle.pgn_games.specs.declared.token_turns.Turn.TheVariants.{Stays, Ends, Begins}
use Rattle.pgn_games.specs.Cutting.{mark_of, is_tag, depth_after, open_at, turn, place_after, place_behind, is_before, onto, put, cut}
use Rattle.pgn_games.specs.Games.{placed_game_of, placed_games, is_closed}
use Rattle.pgn_games.specs.Moving.{moved}
use Rattle.pgn_games.proofs.Cuts.{cut_step}
use Rattle.pgn_games.proofs.GameEnds.{is_within, stays_within}
use Rattle.pgn_games.proofs.EachToken.{none_empty}
use Rattle.pgn_games.proofs.MovedFields.{game_moved}

-- within a game there is a first one
HasFirst : List (List Placed) → Type 0
HasFirst games = (game : List Placed) × (later : List (List Placed)) × (games ≡ game ∷ later)

onto_first : (t : Placed) (games : List (List Placed)) → HasFirst (onto t games)
unfolding HasFirst
onto_first t [] = (t ∷ [], [], refl)
onto_first t (game ∷ games) = (t ∷ game, games, refl)

put_first : (u : Turn) (t : Placed) (games : List (List Placed)) → HasFirst (put u t games)
unfolding HasFirst
put_first (Stays place) t games = onto_first t games
put_first Ends t games = (t ∷ [], games, refl)
put_first Begins t games = ([], onto t games, refl)

first_within : (place : Place) (ts : List Placed) → is_within place ≡ true → HasFirst (cut place ts)
unfolding cut HasFirst
first_within Before [] w = cc
first_within Tags [] w = ([], [], refl)
first_within (Moves depth) [] w = ([], [], refl)
first_within place (t ∷ ts) w = rw (cut_step place t ts) (put_first (turn place t.token) t (cut (place_after (turn place t.token)) ts))

-- games behind others
onto_joined : (t : Placed) (games later : List (List Placed)) → HasFirst games → onto t (games ++ later) ≡ onto t games ++ later
unfolding HasFirst
onto_joined t games later h = rw h.2 refl

put_joined : (place : Place) (u : Turn) (t : Placed) (ts : List Placed) (later : List (List Placed)) → turn place t.token ≡ u → put u t (cut (place_after u) ts ++ later) ≡ put u t (cut (place_after u) ts) ++ later
put_joined place (Stays next) t ts later e = onto_joined t (cut next ts) later (first_within next ts (stays_within place next t.token e))
put_joined place Ends t ts later e = refl
put_joined place Begins t ts later e = ap (λ games. [] ∷ games) (onto_joined t (cut Tags ts) later (first_within Tags ts refl))

cut_joined : (place : Place) (ts us : List Placed) → place_behind place ts ≡ Before → cut place (ts ++ us) ≡ cut place ts ++ cut Before us
unfolding cut
cut_joined place [] us e = rw e refl
cut_joined place (t ∷ ts) us e =
    let u = turn place t.token in
    cut_step place t (ts ++ us) ∙ ap (put u t) (cut_joined (place_after u) ts us e) ∙ put_joined place u t ts (cut Before us) refl ∙ ap (λ games. games ++ cut Before us) (sym (cut_step place t ts))

module _ (n k : ℕ) where
  -- the games of tokens that stand further on
  onto_moved : (t : Placed) (games : List (List Placed)) → onto (moved_token n k t) (map (map (moved_token n k)) games) ≡ map (map (moved_token n k)) (onto t games)
  onto_moved t [] = refl
  onto_moved t (game ∷ games) = refl

  put_moved : (u : Turn) (t : Placed) (games : List (List Placed)) → put u (moved_token n k t) (map (map (moved_token n k)) games) ≡ map (map (moved_token n k)) (put u t games)
  put_moved (Stays place) t games = onto_moved t games
  put_moved Ends t games = refl
  put_moved Begins t games = ap (λ later. [] ∷ later) (onto_moved t games)

  cut_moved : (place : Place) (ts : List Placed) → cut place (map (moved_token n k) ts) ≡ map (map (moved_token n k)) (cut place ts)
  unfolding cut
  cut_moved Before [] = refl
  cut_moved Tags [] = refl
  cut_moved (Moves depth) [] = refl
  cut_moved place (t ∷ ts) =
      let u = turn place t.token in
      cut_step place (moved_token n k t) (map (moved_token n k) ts) ∙ ap (put u (moved_token n k t)) (cut_moved (place_after u) ts) ∙ put_moved u t (cut (place_after u) ts)
      ∙ ap (map (map (moved_token n k))) (sym (cut_step place t ts))

  place_moved : (place : Place) (ts : List Placed) → place_behind place (map (moved_token n k) ts) ≡ place_behind place ts
  place_moved place [] = refl
  place_moved place (t ∷ ts) = place_moved (place_after (turn place t.token)) ts

  games_moved : (games : List (List Placed)) → All (λ (game : List Placed). 0 < length game) games → map placed_game_of (map (map (moved_token n k)) games) ≡ map (moved n k) (map placed_game_of games)
  games_moved [] h = refl
  games_moved (game ∷ games) h =
      ap (λ g. g ∷ map placed_game_of (map (map (moved_token n k)) games)) (game_moved n k game (All-head (λ (game : List Placed). 0 < length game) game games h))
      ∙ ap (λ gs. moved n k (placed_game_of game) ∷ gs) (games_moved games (All-tail (λ (game : List Placed). 0 < length game) game games h))

-- what closed says
both_true : (x y : Bool) → (x && y) ≡ true → (x ≡ true) × (y ≡ true)
both_true true y e = (refl, e)
both_true false y e = cc

before_is : (place : Place) → is_before place ≡ true → place ≡ Before
before_is Before e = refl
before_is Tags e = cc
before_is (Moves depth) e = cc

closed_says : (a : List ℕ) → is_closed a ≡ true → (ends_line a ≡ true) × (place_behind Before (tokens a) ≡ Before)
unfolding is_closed
closed_says a e =
    let h = both_true (ends_line a) (is_before (place_behind Before (tokens a))) e in
    (h.0, before_is (place_behind Before (tokens a)) h.1)

-- a comment that is cut off leaves a game open
open_by : (b : Bool) (depth : ℕ) → is_before (place_after (if b && false then Ends else Stays (Moves depth))) ≡ false
open_by true depth = refl
open_by false depth = refl

unclosed_stays : (place : Place) (token : Token) → token ≡ Unclosed → is_before (place_after (turn place token)) ≡ false
unfolding turn is_tag mark_of depth_after
unclosed_stays place token e = rw e (open_by (open_at place == 0) (open_at place))

never_open : (a : List ℕ) → place_behind Before (tokens a) ≡ Before → LeftOpen a → ⊥
never_open a e h =
    let front = h.0 in
    let t = h.1 in
    let behind : place_behind Before (tokens a) ≡ place_after (turn (place_behind Before front) t.token) =
    ap (place_behind Before) h.2 ∙ fold_push (λ before later. place_after (turn before later.token)) Before front t in
    let no : false ≡ true = sym (unclosed_stays (place_behind Before front) t.token h.3) ∙ ap is_before (sym behind ∙ e) in
    cc

all_joined : (a b : List ℕ) → is_closed a ≡ true → (a ≡ []) ⊎ (has_mark b ≡ false) → LeftOpen a ⊎ Joins a b → Joins a b
all_joined a b e f (inl h) = absurd (never_open a (closed_says a e).1 h)
all_joined a b e f (inr h) = h

pub joined_games : (a b : List ℕ) → is_closed a ≡ true → (a ≡ []) ⊎ (has_mark b ≡ false) → placed_games (a ++ b) ≡ placed_games a ++ map (moved (length a) (line_feeds a)) (placed_games b)
unfolding placed_games
joined_games a b e f =
    let says = closed_says a e in
    let n = length a in
    let k = line_feeds a in
    let all = all_joined a b e f (joined_tokens a b says.0 f) in
    ap (λ ts. map placed_game_of (cut Before ts)) all ∙ ap (map placed_game_of) (cut_joined Before (tokens a) (map (moved_token n k) (tokens b)) says.1)
    ∙ map-append placed_game_of (cut Before (tokens a)) (cut Before (map (moved_token n k) (tokens b)))
    ∙ ap (λ games. map placed_game_of (cut Before (tokens a)) ++ map placed_game_of games) (cut_moved n k Before (tokens b))
    ∙ ap (λ games. map placed_game_of (cut Before (tokens a)) ++ games) (games_moved n k (cut Before (tokens b)) (none_empty (tokens b)))

pub joined_closed : (a b : List ℕ) → is_closed a ≡ true → (a ≡ []) ⊎ (has_mark b ≡ false) → is_closed b ≡ true → is_closed (a ++ b) ≡ true
unfolding is_closed
joined_closed a b e f g =
    let says = closed_says a e in
    let says_b = closed_says b g in
    let n = length a in
    let k = line_feeds a in
    let all = all_joined a b e f (joined_tokens a b says.0 f) in
    let place : place_behind Before (tokens (a ++ b)) ≡ Before =
    ap (place_behind Before) all ∙ fold-append (λ before later. place_after (turn before later.token)) Before (tokens a) (map (moved_token n k) (tokens b))
    ∙ ap (λ p. place_behind p (map (moved_token n k) (tokens b))) says.1 ∙ place_moved n k Before (tokens b) ∙ says_b.1 in
    rw (joined_line a b says.0 f says_b.0, place) refl
