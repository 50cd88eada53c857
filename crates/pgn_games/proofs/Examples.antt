-- Worked texts, computed from the definitions.
use Rattle.std.proofs.Common.{◌≡◌, ℕ, suc, false, true, List, [], ◌∷◌, ◌++◌, Some, map, refl}
use Rattle.std.specs.Prelude.{codes}
use Rattle.pgn_lex.specs.declared.kinds.Token.{Token}
use Rattle.pgn_lex.specs.declared.kinds.Token.TheVariants.{Tag, BadTag, Word, Star, Enter, Leave, Bad}
use Rattle.pgn_lex.specs.declared.kinds.Placed.{Placed}
use Rattle.pgn_games.specs.declared.marks.ResultMark.TheVariants as result
use Rattle.pgn_games.specs.declared.token_turns.Place.TheVariants.{Before}
use Rattle.pgn_games.specs.Cutting.{mark_of, is_tag, depth_after, turn, cut}
use Rattle.pgn_games.specs.Fields.{outside, value_named, tag_value, recorded_in, move_word, move_words, is_bad, first_bad, is_unclosed, says_forfeit, says_chess}
use Rattle.pgn_games.specs.Games.{is_open}

-- tokens in a row, each of a byte
from : ℕ → List Token → List Placed
from at [] = []
from at (t ∷ ts) = record { token = t; offset = at; end = suc at; line = 1 } ∷ from (suc at) ts

word : List ℕ → Token
word text = Word text

tag : List ℕ → List ℕ → Token
tag name value = Tag name value false

-- the tokens alone of each game
shapes : List (List Placed) → List (List Token)
shapes gs = map (λ ts. map (λ t. t.token) ts) gs

-- A result ends a game, and so do tags after moves.
results_and_tags : shapes (cut Before (from 0 (word (codes "e4") ∷ word (codes "1-0") ∷ word (codes "d4") ∷ tag (codes "A") (codes "b") ∷ BadTag ∷ Star ∷ [])))
    ≡ (word (codes "e4") ∷ word (codes "1-0") ∷ []) ∷ (word (codes "d4") ∷ []) ∷ (tag (codes "A") (codes "b") ∷ BadTag ∷ Star ∷ []) ∷ []
unfolding cut turn is_tag mark_of depth_after from word tag shapes
results_and_tags = refl

-- No tokens make no game, and one tag makes one.
nothing_and_a_tag : shapes (cut Before []) ++ shapes (cut Before (from 0 (BadTag ∷ []))) ≡ (BadTag ∷ []) ∷ []
unfolding cut turn is_tag mark_of depth_after from word tag shapes
nothing_and_a_tag = refl

-- A result inside a variation ends nothing, but tags there begin the next game.
inside_a_variation : shapes (cut Before (from 0 (Enter ∷ word (codes "0-1") ∷ Star ∷ Leave ∷ Leave ∷ Star ∷ Enter ∷ BadTag ∷ [])))
    ≡ (Enter ∷ word (codes "0-1") ∷ Star ∷ Leave ∷ Leave ∷ Star ∷ []) ∷ (Enter ∷ []) ∷ (BadTag ∷ []) ∷ []
unfolding cut turn is_tag mark_of depth_after from word tag shapes
inside_a_variation = refl

-- The words outside variations, without the result.
words_outside : move_words (from 0 (word (codes "e4") ∷ Enter ∷ word (codes "d4") ∷ Leave ∷ word (codes "e5") ∷ word (codes "1/2-1/2") ∷ [])) ≡ codes "e4" ∷ codes "e5" ∷ []
unfolding move_words move_word outside mark_of depth_after from word
words_outside = refl

-- The result is that of the movetext.
result_of_the_movetext : recorded_in (from 0 (tag (codes "Result") (codes "1-0") ∷ Enter ∷ word (codes "1-0") ∷ Leave ∷ word (codes "0-1") ∷ [])) ≡ result.BlackWins
unfolding recorded_in outside mark_of depth_after from word tag
result_of_the_movetext = refl

-- Bad tokens inside variations do not count, but a parenthesis too many does.
bad_tokens : first_bad (from 5 (Enter ∷ Bad ∷ Leave ∷ Leave ∷ Bad ∷ [])) ≡ Some 8
unfolding first_bad is_bad outside depth_after from
bad_tokens = refl

-- A variation is open at the end.
open_at_the_end : is_open (from 0 (Enter ∷ Enter ∷ Leave ∷ [])) ≡ true
unfolding is_open is_unclosed depth_after from
open_at_the_end = refl

-- Of two tags of a name the first counts.
two_tags : tag_value (codes "FEN") (from 0 (tag (codes "fen") (codes "a") ∷ tag (codes "FEN") (codes "b") ∷ tag (codes "FEN") (codes "c") ∷ [])) ≡ Some (codes "b")
unfolding tag_value value_named from tag
two_tags = refl

-- Games lost on time, and one that was not.
lost_on_time : says_forfeit (codes "TIME FORFEIT") ∷ says_forfeit (codes "Ben won on time") ∷ says_forfeit (codes "won on time by Ben") ∷ [] ≡ true ∷ true ∷ false ∷ []
unfolding says_forfeit
lost_on_time = refl

-- Names of chess, and of another game.
variants : says_chess (codes "From Position") ∷ says_chess (codes "Standard") ∷ says_chess (codes "Chess960") ∷ [] ≡ true ∷ true ∷ false ∷ []
unfolding says_chess
variants = refl
