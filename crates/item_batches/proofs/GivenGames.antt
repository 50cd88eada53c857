-- Games that are given.
use Rattle.std.proofs.Common.{◌≡◌, ℕ, zero, suc, ◌+◌, ◌*◌, ◌<◌, ◌≤◌, Bool, true, false, if◌then◌else◌, List, [], ◌∷◌, length, map, take, drop, Option, Some, None, nat_lt, slice_get, refl, sym, ap, ◌∙◌, arith, length-append, length-drop, length-take, codes, not, min, subst}
use Rattle.std.specs.List.{list_any}
use Rattle.std.specs.Option.{option_map, option_or}
use Rattle.std.proofs.lemmas.Bool.Decides.{nat_tests}
use Rattle.std.proofs.lemmas.List.{length-map, take-map}
use Rattle.cha_list.specs.declared.classes.Class.TheVariants.{InLine}
use Rattle.cha_list.specs.Bytes.{in_class}
use Rattle.pgn_lex.specs.declared.kinds.Placed.{Placed}
use Rattle.pgn_lex.specs.Tokens.{piece, placed, line_after, tokens_after, has_mark, tokens}
use Rattle.pgn_lex.proofs.Fed.{placed_one}
use Rattle.pgn_games.specs.declared.faults.GameFault.{GameFault}
use Rattle.pgn_games.specs.declared.faults.GameFault.TheVariants.{BadToken, Unclosed, ValueTooLong, Variant, TooManyPlies}
use Rattle.pgn_games.specs.declared.played.PlacedGame.{PlacedGame}
use Rattle.pgn_games.specs.declared.token_turns.Place.{Place}
use Rattle.pgn_games.specs.declared.token_turns.Place.TheVariants.{Before, Tags, Moves}
use Rattle.pgn_games.specs.declared.token_turns.Turn.{Turn}
use Rattle.pgn_games.specs.declared.token_turns.Turn.TheVariants.{Stays, Ends, Begins}
use Rattle.pgn_games.specs.Cutting.{cut, turn, place_after, onto, put}
use Rattle.pgn_games.specs.Fields.{move_words, first_bad, is_cut, passes, says_chess, tag_value}
use Rattle.cha_outcome.specs.declared.items.Item.{Item}
use Rattle.pgn_games.specs.Games.{placed_games, placed_game_of, game_of, fault_of, fault_if, is_open, start_fault}

-- a game without a fault has few words
faultless : (a b c d e : Option GameFault) (many : Bool) → option_or a (option_or b (option_or c (option_or d (option_or e (fault_if many TooManyPlies))))) ≡ None → many ≡ false
faultless (Some x) b c d e many h = cc
faultless None (Some x) c d e many h = cc
faultless None None (Some x) d e many h = cc
faultless None None None (Some x) e many h = cc
faultless None None None None (Some x) many h = cc
faultless None None None None None true h = cc
faultless None None None None None false h = refl

not_many : (n : ℕ) → nat_lt 12000 n ≡ false → n ≤ 12000
not_many n h = grind (arith, nat_tests)

few_of_slice : (slice : List Placed) → (game_of slice).fault ≡ None → length (game_of slice).words ≤ 12000
unfolding game_of fault_of
few_of_slice slice none =
    let few : nat_lt 12000 (length (move_words slice)) ≡ false =
    faultless (option_map BadToken (first_bad slice)) (fault_if (is_open slice) Unclosed) (fault_if (list_any (λ t. is_cut t.token) slice) ValueTooLong)
    (fault_if (passes (λ value. not (says_chess value)) (tag_value (codes "Variant") slice)) Variant) (start_fault (tag_value (codes "FEN") slice)) (nat_lt 12000 (length (move_words slice))) none in
    let bound : length (move_words slice) ≤ 12000 = not_many _ few in
    let kept : length (game_of slice).words ≡ min 12001 (length (move_words slice)) = length-take 12001 (move_words slice) in
    omega arith

few_at : (slices : List (List Placed)) (n : ℕ) (placed : PlacedGame) → slice_get (map placed_game_of slices) n ≡ Some placed → placed.game.fault ≡ None → length placed.game.words ≤ 12000
few_at [] n placed e none = cc
few_at (slice ∷ slices) zero placed e none =
    let same : placed_game_of slice ≡ placed = cc in
    subst (λ g. length g.game.words ≤ 12000) same (few_of_slice slice (ap (λ g. g.game.fault) same ∙ none))
few_at (slice ∷ slices) (suc n) placed e none = few_at slices n placed e none

pub few_words : (bytes : List ℕ) (n : ℕ) (placed : PlacedGame) → slice_get (placed_games bytes) n ≡ Some placed → placed.game.fault ≡ None → length placed.game.words ≤ 12000
unfolding placed_games
few_words bytes n placed e none = few_at (cut Before (tokens bytes)) n placed e none

-- a text has at most as many tokens as bytes, and at most one game more than tokens
tokens_after_few : (pass at line : ℕ) (first : Bool) (bs : List ℕ) → length (tokens_after pass at line first bs) ≤ length bs
unfolding tokens_after
tokens_after_few pass at line first [] = omega arith
tokens_after_few (suc pass) at line first (b ∷ bs) = omega (arith, tokens_after_few pass (at + 1) (line_after line b) (not (in_class InLine b)) bs)
tokens_after_few zero at line first (b ∷ bs) =
    let p = piece first b bs in
    let end = at + 1 + p.more in
    let rest = tokens_after p.more (at + 1) (line_after line b) (not (in_class InLine b)) bs in
    omega (arith, length-append (placed at end line p.token) rest, placed_one at end line p.token, tokens_after_few p.more (at + 1) (line_after line b) (not (in_class InLine b)) bs)

tokens_few_if : (v : Bool) (bytes : List ℕ) → length (if v then tokens_after 0 3 1 true (drop 3 bytes) else tokens_after 0 0 1 true bytes) ≤ length bytes
tokens_few_if true bytes = omega (arith, tokens_after_few 0 3 1 true (drop 3 bytes), length-drop 3 bytes)
tokens_few_if false bytes = tokens_after_few 0 0 1 true bytes

tokens_few : (bytes : List ℕ) → length (tokens bytes) ≤ length bytes
unfolding tokens
tokens_few bytes = tokens_few_if (has_mark bytes) bytes

onto_few : (t : Placed) (gs : List (List Placed)) → length (onto t gs) ≤ length gs + 1
onto_few t [] = omega arith
onto_few t (g ∷ gs) = omega arith

put_few : (now : Turn) (t : Placed) (gs : List (List Placed)) → length (put now t gs) ≤ length gs + 2
put_few (Stays place) t gs = omega (arith, onto_few t gs)
put_few Ends t gs = omega arith
put_few Begins t gs = omega (arith, onto_few t gs)

cut_few : (place : Place) (ts : List Placed) → length (cut place ts) ≤ 2 * length ts + 1
unfolding cut
cut_few Before [] = omega arith
cut_few Tags [] = omega arith
cut_few (Moves depth) [] = omega arith
cut_few Before (t ∷ ts) = let now = turn Before t.token in omega (arith, put_few now t (cut (place_after now) ts), cut_few (place_after now) ts)
cut_few Tags (t ∷ ts) = let now = turn Tags t.token in omega (arith, put_few now t (cut (place_after now) ts), cut_few (place_after now) ts)
cut_few (Moves depth) (t ∷ ts) = let now = turn (Moves depth) t.token in omega (arith, put_few now t (cut (place_after now) ts), cut_few (place_after now) ts)

games_few : (bytes : List ℕ) → length (placed_games bytes) ≤ 2 * length bytes + 1
unfolding placed_games
games_few bytes = omega (arith, length-map (cut Before (tokens bytes)) placed_game_of, cut_few Before (tokens bytes), tokens_few bytes)

-- a game that was given is one of the games
pub given_few : (bytes : List ℕ) (n : ℕ) (placed : PlacedGame) → slice_get (placed_games bytes) n ≡ Some placed → n < 2 * length bytes + 1
given_few bytes n placed e = omega (arith, there (placed_games bytes) n placed e, games_few bytes)
  where
    there : (gs : List PlacedGame) (n : ℕ) (placed : PlacedGame) → slice_get gs n ≡ Some placed → n < length gs
    there [] n placed e = cc
    there (g ∷ gs) zero placed e = omega arith
    there (g ∷ gs) (suc n) placed e = omega (arith, there gs n placed e)

-- the item of the game at a place
pub item_at : (item : PlacedGame → Item) (gs : List PlacedGame) (n : ℕ) (placed : PlacedGame) → slice_get gs n ≡ Some placed → slice_get (map item gs) n ≡ Some (item placed)
item_at item [] n placed e = cc
item_at item (g ∷ gs) zero placed e = let same : g ≡ placed = cc in ap (λ x. Some (item x)) same
item_at item (g ∷ gs) (suc n) placed e = item_at item gs n placed e

-- the first items are those of the first games
pub items_first : (item : PlacedGame → Item) (n : ℕ) (now before : List ℕ) → take n (placed_games now) ≡ take n (placed_games before) → take n (map item (placed_games now)) ≡ take n (map item (placed_games before))
items_first item n now before same = take-map item n (placed_games now) ∙ ap (map item) same ∙ sym (take-map item n (placed_games before))
