-- What the tokens of a game that was made say.
use Rattle.std.proofs.Common.{◌≡◌, ℕ, Bool, false, List, [], ◌∷◌, ◌++◌, Option, Some, None, refl, ap, ◌∙◌, append_assoc, append-nil}
use Rattle.std.specs.Prelude.{codes}
use Rattle.std.specs.List.{filter_map, cons_option, list_any, fold, slice_get}
use Rattle.std.specs.Option.{unwrap_or}
use Rattle.std.proofs.lemmas.List.Elements.{filter_map-append}
use Rattle.pgn_lex.specs.declared.kinds.Token.TheVariants.{Word}
use Rattle.pgn_lex.specs.declared.kinds.Placed.{Placed}
use Rattle.pgn_games.specs.declared.marks.ResultMark.{ResultMark}
use Rattle.pgn_games.specs.declared.marks.ResultMark.TheVariants.{Unknown}
use Rattle.pgn_games.specs.declared.token_turns.Place.{Place}
use Rattle.pgn_games.specs.declared.token_turns.Place.TheVariants.{Before, Tags, Moves}
use Rattle.pgn_games.specs.declared.token_turns.Turn.TheVariants.{Stays, Ends}
use Rattle.pgn_games.specs.Cutting.{mark_of, is_tag, depth_after, open_at, turn, place_after, onto, put, cut}
use Rattle.pgn_games.specs.Fields.{outside, value_named, tag_value, recorded_in, move_word as word_of, move_words, is_bad, bad_offset, first_bad, is_unclosed, is_cut}
use Rattle.pgn_games.specs.Games.{is_open}
use Rattle.pgn_games.proofs.Cuts.{cut_step}
use Rattle.random_games.proofs.Passed.{Spot, a_word}
use Rattle.random_games.proofs.TagLines.{a_tag}
use Rattle.random_games.proofs.GameTokens.{IsMoveWord, AllMoveWords, next_word, placed_words, game_tokens}

-- the words and the result are one game
word_turn : (place : Place) (w : List ℕ) → open_at place ≡ 0 → mark_of (Word w) ≡ None → turn place (Word w) ≡ Stays (Moves 0)
unfolding turn is_tag depth_after
word_turn place w none_open none = rw (none_open, none) refl

result_turn : (place : Place) (w : List ℕ) (mark : ResultMark) → open_at place ≡ 0 → mark_of (Word w) ≡ Some mark → turn place (Word w) ≡ Ends
unfolding turn is_tag
result_turn place w mark none_open some = rw (none_open, some) refl

cut_words : (place : Place) (at e : Spot) (ws : List (List ℕ)) (result : List ℕ) (mark : ResultMark) (rest : List Placed) → open_at place ≡ 0 → AllMoveWords ws → mark_of (Word result) ≡ Some mark
    → cut place (placed_words at ws ++ a_word result e ∷ rest) ≡ (placed_words at ws ++ a_word result e ∷ []) ∷ cut Before rest
cut_words place at e [] result mark rest none_open all some =
    let t = a_word result e in
    cut_step place t rest ∙ ap (λ u. put u t (cut (place_after u) rest)) (result_turn place result mark none_open some)
cut_words place at e (w ∷ ws) result mark rest none_open all some =
    let t = a_word w at in
    let more = placed_words (next_word w at) ws ++ a_word result e ∷ rest in
    cut_step place t more
    ∙ ap (λ u. put u t (cut (place_after u) more)) (word_turn place w none_open all.0.no_mark)
    ∙ ap (onto t) (cut_words (Moves 0) (next_word w at) e ws result mark rest refl all.1 some)

pub cut_game : (a b c d e : Spot) (event result termination : List ℕ) (ws : List (List ℕ)) (mark : ResultMark) (rest : List Placed) → AllMoveWords ws → mark_of (Word result) ≡ Some mark
    → cut Before (game_tokens a b c d e event result termination ws ++ rest) ≡ game_tokens a b c d e event result termination ws ∷ cut Before rest
unfolding cut turn is_tag
cut_game a b c d e event result termination ws mark rest all some =
    let t1 : Placed = a_tag (codes "Event") event a in
    let t2 : Placed = a_tag (codes "Result") result b in
    let t3 : Placed = a_tag (codes "Termination") termination c in
    ap (λ ts. onto t1 (onto t2 (onto t3 (cut Tags ts)))) (append_assoc (placed_words d ws) (a_word result e ∷ []) rest)
    ∙ ap (λ games. onto t1 (onto t2 (onto t3 games))) (cut_words Tags d e ws result mark rest refl all some)

-- what the words alone give
words_none : {B : Type 0} (f : Placed → Option B) (ws : List (List ℕ)) (at : Spot) → AllMoveWords ws → ((w : List ℕ) (k : Spot) → IsMoveWord w → f (a_word w k) ≡ None) → filter_map f (placed_words at ws) ≡ []
words_none f [] at all none = refl
words_none f (w ∷ ws) at all none =
    ap (λ o. cons_option o (filter_map f (placed_words (next_word w at) ws))) (none w at all.0) ∙ words_none f ws (next_word w at) all.1 none

words_given : (ws : List (List ℕ)) (at : Spot) → AllMoveWords ws → filter_map (λ (t : Placed). word_of t.token) (placed_words at ws) ≡ ws
unfolding word_of
words_given [] at all = refl
words_given (w ∷ ws) at all =
    let here : word_of (Word w) ≡ Some w = rw (all.0.no_mark) refl in
    ap (λ o. cons_option o (filter_map (λ (t : Placed). word_of t.token) (placed_words (next_word w at) ws))) here ∙ ap (λ xs. w ∷ xs) (words_given ws (next_word w at) all.1)

words_not : (p : Placed → Bool) (ws : List (List ℕ)) (at : Spot) (zs : List Placed) → ((w : List ℕ) (k : Spot) → p (a_word w k) ≡ false) → list_any p (placed_words at ws ++ zs) ≡ list_any p zs
words_not p [] at zs none = refl
words_not p (w ∷ ws) at zs none =
    let here = none w at in
    let rest = words_not p ws (next_word w at) zs none in
    rw (here, rest) refl

outside_words : (ws : List (List ℕ)) (at : Spot) (zs : List Placed) → outside 0 (placed_words at ws ++ zs) ≡ placed_words at ws ++ outside 0 zs
unfolding outside depth_after
outside_words [] at zs = refl
outside_words (w ∷ ws) at zs = ap (λ ts. a_word w at ∷ ts) (outside_words ws (next_word w at) zs)

depth_words : (ws : List (List ℕ)) (at : Spot) (zs : List Placed) → fold (λ depth (t : Placed). depth_after depth t.token) 0 (placed_words at ws ++ zs) ≡ fold (λ depth (t : Placed). depth_after depth t.token) 0 zs
unfolding depth_after
depth_words [] at zs = refl
depth_words (w ∷ ws) at zs = depth_words ws (next_word w at) zs

-- the game that these tokens say
pub record Says (slice : List Placed) (ws : List (List ℕ)) (mark : ResultMark) (termination : List ℕ) : Type 0 where
  pub no_position : tag_value (codes "FEN") slice ≡ None
  pub no_variant : tag_value (codes "Variant") slice ≡ None
  pub ending : tag_value (codes "Termination") slice ≡ Some termination
  pub recorded : recorded_in slice ≡ mark
  pub words : move_words slice ≡ ws
  pub none_bad : first_bad slice ≡ None
  pub closed : is_open slice ≡ false
  pub uncut : list_any (λ (t : Placed). is_cut t.token) slice ≡ false

game_outside : (a b c d e : Spot) (event result termination : List ℕ) (ws : List (List ℕ))
    → outside 0 (game_tokens a b c d e event result termination ws) ≡ game_tokens a b c d e event result termination ws
unfolding outside depth_after
game_outside a b c d e event result termination ws =
    let t1 : Placed = a_tag (codes "Event") event a in
    let t2 : Placed = a_tag (codes "Result") result b in
    let t3 : Placed = a_tag (codes "Termination") termination c in
    ap (λ ts. t1 ∷ t2 ∷ t3 ∷ ts) (outside_words ws d (a_word result e ∷ []))

-- what is given by the words and the result
end_given : {B : Type 0} (f : Placed → Option B) (ws : List (List ℕ)) (d e : Spot) (result : List ℕ) → AllMoveWords ws → ((w : List ℕ) (k : Spot) → IsMoveWord w → f (a_word w k) ≡ None)
    → filter_map f (placed_words d ws ++ a_word result e ∷ []) ≡ filter_map f (a_word result e ∷ [])
end_given f ws d e result all none = filter_map-append f (placed_words d ws) (a_word result e ∷ []) ∙ ap (λ xs. xs ++ filter_map f (a_word result e ∷ [])) (words_none f ws d all none)

no_word : (result : List ℕ) (e : Spot) (mark : ResultMark) → mark_of (Word result) ≡ Some mark → filter_map (λ (t : Placed). word_of t.token) (a_word result e ∷ []) ≡ []
unfolding word_of
no_word result e mark some = rw some refl

-- nothing is none_open behind words
closed_end : (ws : List (List ℕ)) (d : Spot) (zs : List Placed) → list_any (λ (t : Placed). is_unclosed t.token) zs ≡ false → fold (λ depth (t : Placed). depth_after depth t.token) 0 zs ≡ 0
    → is_open (placed_words d ws ++ zs) ≡ false
unfolding is_open is_unclosed
closed_end ws d zs none none' =
    let one = words_not (λ (t : Placed). is_unclosed t.token) ws d zs (λ w k. refl) ∙ none in
    let two = depth_words ws d zs ∙ none' in
    rw (one, two) refl

pub game_says : (a b c d e : Spot) (event result termination : List ℕ) (ws : List (List ℕ)) (mark : ResultMark) → AllMoveWords ws → mark_of (Word result) ≡ Some mark
    → Says (game_tokens a b c d e event result termination ws) ws mark termination
unfolding tag_value value_named recorded_in move_words word_of first_bad is_bad is_open is_unclosed is_cut mark_of depth_after
game_says a b c d e event result termination ws mark all some =
    let slice = game_tokens a b c d e event result termination ws in
    let same = game_outside a b c d e event result termination ws in
    let last = a_word result e in
    let value : (name : List ℕ) → filter_map (λ (t : Placed). value_named name t.token) (placed_words d ws ++ last ∷ []) ≡ [] = λ name.
    end_given (λ (t : Placed). value_named name t.token) ws d e result all (λ w k h. refl) in
    let marks : filter_map (λ (t : Placed). mark_of t.token) (placed_words d ws ++ last ∷ []) ≡ mark ∷ [] =
    end_given (λ (t : Placed). mark_of t.token) ws d e result all (λ w k h. h.no_mark) ∙ ap (λ o. cons_option o []) some in
    let told : filter_map (λ (t : Placed). word_of t.token) (placed_words d ws ++ last ∷ []) ≡ ws =
    filter_map-append (λ (t : Placed). word_of t.token) (placed_words d ws) (last ∷ [])
    ∙ ap (λ xs. xs ++ filter_map (λ (t : Placed). word_of t.token) (last ∷ [])) (words_given ws d all)
    ∙ ap (λ xs. ws ++ xs) (no_word result e mark some)
    ∙ append-nil ws in
    let bad : filter_map bad_offset (placed_words d ws ++ last ∷ []) ≡ [] = end_given bad_offset ws d e result all (λ w k h. refl) in
    record {
      no_position = ap (λ xs. slice_get xs 0) (value (codes "FEN"));
      no_variant = ap (λ xs. slice_get xs 0) (value (codes "Variant"));
      ending = refl;
      recorded = ap (λ ts. unwrap_or (slice_get (filter_map (λ (t : Placed). mark_of t.token) ts) 0) Unknown) same ∙ ap (λ xs. unwrap_or (slice_get xs 0) Unknown) marks;
      words = ap (λ ts. filter_map (λ (t : Placed). word_of t.token) ts) same ∙ told;
      none_bad = ap (λ ts. slice_get (filter_map bad_offset ts) 0) same ∙ ap (λ xs. slice_get xs 0) bad;
      closed = closed_end ws d (last ∷ []) refl refl;
      uncut = words_not (λ (t : Placed). is_cut t.token) ws d (last ∷ []) (λ w k. refl);
    }
