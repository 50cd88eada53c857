-- Where a game ends.
use Rattle.std.proofs.Common.{◌≡◌, ℕ, ◌+◌, ◌≤◌, ◌==◌, ◌&&◌, ◌<◌, Bool, true, false, if◌then◌else◌, List, ◌∷◌, length, drop, slice_index_or, is_some, refl, sym, ap, ◌∙◌, arith}
use Rattle.std.proofs.lemmas.List.{drop_more, drop_all}
use Rattle.pgn_lex.specs.declared.kinds.Token.{Token}
use Rattle.pgn_lex.specs.declared.kinds.Token.TheVariants.{Tag, BadTag, Word, Star, Enter, Leave, Bad, Unclosed}
use Rattle.pgn_lex.specs.declared.kinds.Placed.{Placed}
use Rattle.pgn_games.specs.declared.token_turns.Place.{Place}
use Rattle.pgn_games.specs.declared.token_turns.Place.TheVariants.{Before, Tags, Moves}
use Rattle.pgn_games.specs.declared.token_turns.Turn.{Turn}
use Rattle.pgn_games.specs.declared.token_turns.Turn.TheVariants.{Stays, Ends, Begins}
use Rattle.pgn_games.specs.Cutting.{mark_of, is_tag, depth_after, open_at, tag_turn, move_turn, turn, place_after, place_behind, put, cut}

pub cut_step : (place : Place) (t : Placed) (ts : List Placed) → cut place (t ∷ ts) ≡ put (turn place t.token) t (cut (place_after (turn place t.token)) ts)
unfolding cut
cut_step Before t ts = refl
cut_step Tags t ts = refl
cut_step (Moves depth) t ts = refl

-- only a tag begins a game
moves_begin_none : (b : Bool) (place : Place) → (if b then Ends else Stays place) ≡ Begins → ⊥
moves_begin_none true place e = cc
moves_begin_none false place e = cc

begins_by : (b : Bool) (place : Place) (token : Token) → (if b then tag_turn place else move_turn (open_at place) token) ≡ Begins → (if b then tag_turn Before else move_turn 0 token) ≡ Stays Tags
begins_by true place token e = refl
begins_by false place token e = absurd (moves_begin_none ((open_at place == 0) && is_some (mark_of token)) (Moves (depth_after (open_at place) token)) e)

pub tag_begins : (place : Place) (token : Token) → turn place token ≡ Begins → turn Before token ≡ Stays Tags
unfolding turn
tag_begins place token e = begins_by (is_tag token) place token e

-- one variation more at most
pub deeper_by_one : (depth : ℕ) (token : Token) → depth_after depth token ≤ depth + 1
unfolding depth_after
deeper_by_one depth (Tag name value cut) = omega arith
deeper_by_one depth BadTag = omega arith
deeper_by_one depth (Word word) = omega arith
deeper_by_one depth Star = omega arith
deeper_by_one depth Enter = omega arith
deeper_by_one depth Leave = omega arith
deeper_by_one depth Bad = omega arith
deeper_by_one depth Unclosed = omega arith

tags_open : (place next : Place) → tag_turn place ≡ Stays next → open_at next ≤ open_at place + 1
tags_open Before next e = let f : Tags ≡ next = cc in rw (← f) (omega arith)
tags_open Tags next e = let f : Tags ≡ next = cc in rw (← f) (omega arith)
tags_open (Moves depth) next e = cc

moves_open : (b : Bool) (depth : ℕ) (token : Token) (next : Place) → (if b then Ends else Stays (Moves (depth_after depth token))) ≡ Stays next → open_at next ≤ depth + 1
moves_open true depth token next e = cc
moves_open false depth token next e = let f : Moves (depth_after depth token) ≡ next = cc in rw (← f) (deeper_by_one depth token)

opens_by : (b : Bool) (place next : Place) (token : Token) → (if b then tag_turn place else move_turn (open_at place) token) ≡ Stays next → open_at next ≤ open_at place + 1
opens_by true place next token e = tags_open place next e
opens_by false place next token e = moves_open ((open_at place == 0) && is_some (mark_of token)) (open_at place) token next e

pub opens : (place next : Place) (token : Token) → turn place token ≡ Stays next → open_at next ≤ open_at place + 1
unfolding turn
opens place next token e = opens_by (is_tag token) place next token e

after_by : (u : Turn) (place : Place) (token : Token) → turn place token ≡ u → open_at (place_after u) ≤ open_at place + 1
after_by (Stays next) place token e = opens place next token e
after_by Ends place token e = omega arith
after_by Begins place token e = omega arith

pub opens_after : (place : Place) (token : Token) → open_at (place_after (turn place token)) ≤ open_at place + 1
opens_after place token = after_by (turn place token) place token refl

-- from token to token
pub led_on : (tokens : List Placed) (i : ℕ) (t : Placed) (start stand stand' : Place) (u : Turn) → i < length tokens → t ≡ slice_index_or tokens i t → u ≡ turn stand t.token → stand' ≡ place_after u
    → place_behind stand (drop i tokens) ≡ place_behind start tokens → place_behind stand' (drop (i + 1) tokens) ≡ place_behind start tokens
led_on tokens i t start stand stand' u inside is e f before =
    let cut : drop i tokens ≡ t ∷ drop (i + 1) tokens = drop_more tokens i t inside ∙ ap (λ x. x ∷ drop (i + 1) tokens) (sym is) in
    ap (λ p. place_behind p (drop (i + 1) tokens)) (f ∙ ap place_after e) ∙ ap (place_behind stand) (sym cut) ∙ before

pub led_end : (tokens : List Placed) (i : ℕ) (start stand : Place) → length tokens ≤ i → place_behind stand (drop i tokens) ≡ place_behind start tokens → stand ≡ place_behind start tokens
led_end tokens i start stand large before = ap (place_behind stand) (sym (drop_all i tokens large)) ∙ before
