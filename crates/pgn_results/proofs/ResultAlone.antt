-- A game that begins with its result has nothing else.
use Rattle.std.proofs.Common.{◌≡◌, ℕ, Bool, true, false, if◌then◌else◌, is_some, List, [], ◌∷◌, Some, None, refl, sym, subst, arith}
use Rattle.std.specs.Prelude.{codes}
use Rattle.std.specs.List.{All}
use Rattle.std.proofs.lemmas.List.Elements.{All-cons}
use Rattle.pgn_lex.specs.declared.kinds.Token.{Token}
use Rattle.pgn_lex.specs.declared.kinds.Token.TheVariants.{Tag, BadTag, Word, Star, Enter, Leave, Bad, Unclosed}
use Rattle.pgn_lex.specs.declared.kinds.Placed.{Placed}
use Rattle.pgn_games.specs.declared.played.Game.{Game}
use Rattle.pgn_games.specs.declared.token_turns.Place.TheVariants.{Before}
use Rattle.pgn_games.specs.Cutting.{mark_of, cut}
use Rattle.pgn_games.specs.Fields.{outside, value_named, tag_value, move_word, move_words}
use Rattle.pgn_games.specs.Games.{opening, start_of, game_of}
use Rattle.pgn_results.specs.Kept.{begins_with_result}
use Rattle.pgn_results.proofs.Alone.{Ended}
use Rattle.pgn_results.proofs.Endings.{AllEnded, all_ended}

-- it has no move and no tag
abbrev pub Says : Game → Type 0
Says game = (game.words ≡ []) × (game.start ≡ opening) × (game.forfeit ≡ false) × (game.flag_fell ≡ false)

abbrev Bare : List Placed → Type 0
Bare game = begins_with_result game ≡ true → Says (game_of game)

abbrev Alone : Token → Type 0
Alone token = (move_word token ≡ None) × (value_named (codes "FEN") token ≡ None) × (value_named (codes "Termination") token ≡ None)

no_move : (v : Bool) (word : List ℕ) → v ≡ true → (if v then None else Some word) ≡ None
no_move true word e = refl
no_move false word e = cc

alone : (token : Token) → is_some (mark_of token) ≡ true → Alone token
unfolding mark_of move_word value_named
alone (Tag name value cut) e = cc
alone BadTag e = cc
alone (Word word) e = (no_move _ word e, refl, refl)
alone Star e = (refl, refl, refl)
alone Enter e = cc
alone Leave e = cc
alone Bad e = cc
alone Unclosed e = cc

bare_one : (t : Placed) → Alone t.token → Says (game_of (t ∷ []))
unfolding game_of move_words outside tag_value start_of
bare_one t h = (rw (h.0) refl, rw (h.1) refl, rw (h.2) refl, rw (h.2) refl)

bare : (game : List Placed) → Ended 0 game → Bare game
unfolding Ended begins_with_result
bare [] h e = cc
bare (t ∷ ts) h e =
    let none : ts ≡ [] = h.0 e in
    subst (λ xs. Says (game_of (t ∷ xs))) (sym none) (bare_one t (alone t.token e))

all_bare : (depth : ℕ) (games : List (List Placed)) → depth ≡ 0 → AllEnded depth games → All Bare games
unfolding AllEnded
all_bare depth [] d h = λ k x inside. absurd (omega arith)
all_bare depth (game ∷ games) d h = All-cons Bare game games (bare game (subst (λ n. Ended n game) d h.0)) (all_bare 0 games refl h.1)

pub result_alone : (ts : List Placed) → All Bare (cut Before ts)
result_alone ts = all_bare 0 (cut Before ts) refl (all_ended ts)
