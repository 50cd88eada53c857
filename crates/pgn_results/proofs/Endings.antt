-- A result ends its game.
use Rattle.std.specs.Bool.{⊤}
use Rattle.std.proofs.Common.{◌≡◌, ℕ, Bool, true, false, if◌then◌else◌, is_some, List, [], ◌∷◌, refl, sym, ap, ◌∙◌, subst}
use Rattle.pgn_lex.specs.declared.kinds.Token.{Token}
use Rattle.pgn_lex.specs.declared.kinds.Token.TheVariants.{Tag, BadTag, Word, Star, Enter, Leave, Bad, Unclosed}
use Rattle.pgn_lex.specs.declared.kinds.Placed.{Placed}
use Rattle.pgn_games.specs.declared.token_turns.Place.{Place}
use Rattle.pgn_games.specs.declared.token_turns.Place.TheVariants.{Before, Tags, Moves}
use Rattle.pgn_games.specs.declared.token_turns.Turn.{Turn}
use Rattle.pgn_games.specs.declared.token_turns.Turn.TheVariants.{Stays, Ends, Begins}
use Rattle.pgn_games.specs.Cutting.{mark_of, is_tag, depth_after, open_at, tag_turn, move_turn, turn, place_after, onto, put, cut}
use Rattle.pgn_games.proofs.Cuts.{cut_step, tag_begins}
use Rattle.pgn_results.specs.Replacing.{is_result_at}
use Rattle.pgn_results.proofs.Alone.{Ended}

-- each of these games ends with its result; the first goes on with so many variations open
unfoldable pub AllEnded : ℕ → List (List Placed) → Type 0
AllEnded depth [] = ⊤
AllEnded depth (game ∷ games) = Ended depth game × AllEnded 0 games

-- a token that a game goes on behind
abbrev GoesOn : ℕ → Token → Place → Type 0
GoesOn depth token next = (is_result_at depth token ≡ false) × (depth_after depth token ≡ open_at next)

tag_told : (token : Token) → is_tag token ≡ true → (is_some (mark_of token) ≡ false) × ((depth : ℕ) → depth_after depth token ≡ depth)
unfolding is_tag mark_of depth_after
tag_told (Tag name value cut) e = (refl, λ depth. refl)
tag_told BadTag e = (refl, λ depth. refl)
tag_told (Word word) e = cc
tag_told Star e = cc
tag_told Enter e = cc
tag_told Leave e = cc
tag_told Bad e = cc
tag_told Unclosed e = cc

moves_on : (b : Bool) (depth : ℕ) (token : Token) (next : Place) → is_result_at depth token ≡ b → (if b then Ends else Stays (Moves (depth_after depth token))) ≡ Stays next → GoesOn depth token next
moves_on true depth token next d e = cc
moves_on false depth token next d e = let is : Moves (depth_after depth token) ≡ next = cc in (d, ap open_at is)

tags_on : (place next : Place) (token : Token) → is_tag token ≡ true → tag_turn place ≡ Stays next → GoesOn (open_at place) token next
tags_on Before next token t e = let is : Tags ≡ next = cc in let told = tag_told token t in (told.0, told.1 0 ∙ ap open_at is)
tags_on Tags next token t e = let is : Tags ≡ next = cc in let told = tag_told token t in (told.0, told.1 0 ∙ ap open_at is)
tags_on (Moves depth) next token t e = cc

goes_by : (b : Bool) (place next : Place) (token : Token) → is_tag token ≡ b → (if b then tag_turn place else move_turn (open_at place) token) ≡ Stays next → GoesOn (open_at place) token next
goes_by true place next token t e = tags_on place next token t e
goes_by false place next token t e = moves_on (is_result_at (open_at place) token) (open_at place) token next refl e

goes_on : (place next : Place) (token : Token) → turn place token ≡ Stays next → GoesOn (open_at place) token next
unfolding turn
goes_on place next token e = goes_by (is_tag token) place next token refl e

onto_ended : (depth : ℕ) (next : Place) (t : Placed) (games : List (List Placed)) → GoesOn depth t.token next → AllEnded (open_at next) games → AllEnded depth (onto t games)
unfolding AllEnded Ended
onto_ended depth next t [] h k = ((λ e. refl, tt), tt)
onto_ended depth next t (game ∷ games) h k = ((λ e. let no : true ≡ false = sym e ∙ h.0 in cc, subst (λ n. Ended n game) (sym h.1) k.0), k.1)

put_ended : (place : Place) (u : Turn) (t : Placed) (games : List (List Placed)) → turn place t.token ≡ u → AllEnded (open_at (place_after u)) games → AllEnded (open_at place) (put u t games)
unfolding AllEnded Ended
put_ended place (Stays next) t games e h = onto_ended (open_at place) next t games (goes_on place next t.token e) h
put_ended place Ends t games e h = ((λ d. refl, tt), h)
put_ended place Begins t games e h = (tt, onto_ended 0 Tags t games (goes_on Before Tags t.token (tag_begins place t.token e)) h)

cut_ended : (place : Place) (ts : List Placed) → AllEnded (open_at place) (cut place ts)
unfolding cut AllEnded Ended
cut_ended Before [] = tt
cut_ended Tags [] = (tt, tt)
cut_ended (Moves depth) [] = (tt, tt)
cut_ended place (t ∷ ts) = let u = turn place t.token in subst (AllEnded (open_at place)) (sym (cut_step place t ts)) (put_ended place u t (cut (place_after u) ts) refl (cut_ended (place_after u) ts))

pub all_ended : (ts : List Placed) → AllEnded 0 (cut Before ts)
all_ended ts = cut_ended Before ts
