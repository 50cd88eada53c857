-- What the tokens of a game say, whatever results they tell and wherever they stand.
use Rattle.std.proofs.Common.{◌≡◌, ℕ, ◌==◌, ◌||◌, Bool, true, false, not, if◌then◌else◌, is_some, List, [], ◌∷◌, ◌++◌, Option, Some, None, length, map, take, nat_lt, refl, sym, ap, ◌∙◌}
use Rattle.std.specs.Prelude.{codes}
use Rattle.std.specs.List.{fold, filter_map, cons_option, slice_get, list_any}
use Rattle.std.specs.Option.{option_map, option_or}
use Rattle.std.proofs.lemmas.List.{map-append}
use Rattle.pgn_lex.specs.declared.kinds.Token.{Token}
use Rattle.pgn_lex.specs.declared.kinds.Placed.{Placed}
use Rattle.pgn_games.specs.declared.faults.GameFault.{GameFault}
use Rattle.pgn_games.specs.declared.faults.GameFault.TheVariants.{BadToken, Unclosed, ValueTooLong, Variant, TooManyPlies}
use Rattle.pgn_games.specs.declared.marks.ResultMark.{ResultMark}
use Rattle.pgn_games.specs.declared.played.Game.{Game}
use Rattle.pgn_games.specs.declared.token_turns.Place.{Place}
use Rattle.pgn_games.specs.declared.token_turns.Place.TheVariants.{Before, Tags, Moves}
use Rattle.pgn_games.specs.declared.token_turns.Turn.{Turn}
use Rattle.pgn_games.specs.declared.token_turns.Turn.TheVariants.{Stays, Ends, Begins}
use Rattle.pgn_games.specs.Cutting.{depth_after, turn, place_after, onto, put, cut}
use Rattle.pgn_games.specs.Fields.{outside, depth_at_end, value_named, tag_value, move_word, move_words, is_bad, bad_offset, first_bad, before_bad, sound_words, is_unclosed, is_cut, says_forfeit, says_flag_fell, says_chess, passes}
use Rattle.pgn_games.specs.Games.{is_open, start_of, start_fault, fault_if, fault_of, has_bad_tag, words_before_fault, game_of}
use Rattle.pgn_games.proofs.Cuts.{cut_step}
use Rattle.pgn_results.specs.Kept.{placeless_fault, told_with}

-- what a game says, from what its tokens do
abbrev pub says : ResultMark → Bool → Bool → Bool → Option (List ℕ) → Option (List ℕ) → Option (List ℕ) → List (List ℕ) → List (List ℕ) → Game
says mark bad unclosed cut variant fen termination words sound = record {
  start = start_of fen;
  recorded = mark;
  forfeit = passes says_forfeit termination;
  flag_fell = passes says_flag_fell termination;
  words = take 12001 words;
  before_fault =
      if cut || passes (λ value. not (says_chess value)) variant || is_some (start_fault fen) then None else Some (length (take 12000 sound));
  fault = option_map placeless_fault (
      option_or (if bad then Some (BadToken 0) else None) (
      option_or (fault_if unclosed Unclosed) (
      option_or (fault_if cut ValueTooLong) (
      option_or (fault_if (passes (λ value. not (says_chess value)) variant) Variant) (
      option_or (start_fault fen) (fault_if (nat_lt 12000 (length words)) TooManyPlies))))));
}

fault_by : (o : Option ℕ) (rest : Option GameFault) → option_map placeless_fault (option_or (option_map BadToken o) rest) ≡ option_map placeless_fault (option_or (if is_some o then Some (BadToken 0) else None) rest)
fault_by None rest = refl
fault_by (Some x) rest = refl

pub said : (mark : ResultMark) (ts : List Placed) → told_with mark (game_of ts)
    ≡ says mark (is_some (first_bad ts)) (is_open ts) (list_any (λ (t : Placed). is_cut t.token) ts) (tag_value (codes "Variant") ts) (tag_value (codes "FEN") ts) (tag_value (codes "Termination") ts) (move_words ts) (sound_words ts)
unfolding game_of fault_of words_before_fault has_bad_tag
said mark ts = rw (fault_by (first_bad ts) _) refl

-- a token without its place, after a change
abbrev pub plain : (Token → Token) → Placed → Placed
plain f t = record { token = f t.token; offset = 0; end = 0; line = 0 }

module _ (f : Token → Token) where
  pub same_tokens : {B : Type 0} (g : Token → Option B) → ((token : Token) → g (f token) ≡ g token) → (ts : List Placed)
      → filter_map (λ (t : Placed). g t.token) (map (plain f) ts) ≡ filter_map (λ (t : Placed). g t.token) ts
  same_tokens g same [] = refl
  same_tokens g same (t ∷ ts) = ap (λ o. cons_option o (filter_map (λ (t : Placed). g t.token) (map (plain f) ts))) (same t.token) ∙ ap (cons_option (g t.token)) (same_tokens g same ts)

  pub any_plain : (test : Token → Bool) → ((token : Token) → test (f token) ≡ test token) → (ts : List Placed) → list_any (λ (t : Placed). test t.token) (map (plain f) ts) ≡ list_any (λ (t : Placed). test t.token) ts
  any_plain test same [] = refl
  any_plain test same (t ∷ ts) = ap (λ b. b || list_any (λ (t : Placed). test t.token) (map (plain f) ts)) (same t.token) ∙ ap (λ b. test t.token || b) (any_plain test same ts)

  pub tag_plain : (name : List ℕ) → ((token : Token) → value_named name (f token) ≡ value_named name token) → (ts : List Placed) → tag_value name (map (plain f) ts) ≡ tag_value name ts
  unfolding tag_value
  tag_plain name same ts = ap (λ xs. slice_get xs 0) (same_tokens (value_named name) same ts)

  at_by : (b : Bool) (t : Placed) → (if b then plain f t ∷ [] else []) ≡ map (plain f) (if b then t ∷ [] else [])
  at_by true t = refl
  at_by false t = refl

  pub outside_plain : ((depth : ℕ) (token : Token) → depth_after depth (f token) ≡ depth_after depth token) → (depth : ℕ) (ts : List Placed) → outside depth (map (plain f) ts) ≡ map (plain f) (outside depth ts)
  unfolding outside
  outside_plain same depth [] = refl
  outside_plain same depth (t ∷ ts) =
      let rest = outside (depth_after depth t.token) ts in
      ap (λ d. (if depth == 0 then plain f t ∷ [] else []) ++ outside d (map (plain f) ts)) (same depth t.token)
      ∙ ap (λ xs. xs ++ outside (depth_after depth t.token) (map (plain f) ts)) (at_by (depth == 0) t)
      ∙ ap (λ xs. map (plain f) (if depth == 0 then t ∷ [] else []) ++ xs) (outside_plain same (depth_after depth t.token) ts)
      ∙ sym (map-append (plain f) (if depth == 0 then t ∷ [] else []) rest)

  pub depth_plain : ((depth : ℕ) (token : Token) → depth_after depth (f token) ≡ depth_after depth token) → (depth : ℕ) (ts : List Placed)
      → fold (λ depth (t : Placed). depth_after depth t.token) depth (map (plain f) ts) ≡ fold (λ depth (t : Placed). depth_after depth t.token) depth ts
  depth_plain same depth [] = refl
  depth_plain same depth (t ∷ ts) = ap (λ d. fold (λ depth (t : Placed). depth_after depth t.token) d (map (plain f) ts)) (same depth t.token) ∙ depth_plain same (depth_after depth t.token) ts

  bad_by : (b : Bool) (n : ℕ) (xs ys : List ℕ) → is_some (slice_get xs 0) ≡ is_some (slice_get ys 0) → is_some (slice_get (cons_option (if b then Some 0 else None) xs) 0) ≡ is_some (slice_get (cons_option (if b then Some n else None) ys) 0)
  bad_by true n xs ys e = refl
  bad_by false n xs ys e = e

  bad_some : ((token : Token) → is_bad (f token) ≡ is_bad token) → (ts : List Placed) → is_some (slice_get (filter_map bad_offset (map (plain f) ts)) 0) ≡ is_some (slice_get (filter_map bad_offset ts) 0)
  bad_some same [] = refl
  bad_some same (t ∷ ts) =
      ap (λ b. is_some (slice_get (cons_option (if b then Some 0 else None) (filter_map bad_offset (map (plain f) ts))) 0)) (same t.token)
      ∙ bad_by (is_bad t.token) t.offset (filter_map bad_offset (map (plain f) ts)) (filter_map bad_offset ts) (bad_some same ts)

  pub bad_plain : ((depth : ℕ) (token : Token) → depth_after depth (f token) ≡ depth_after depth token) → ((token : Token) → is_bad (f token) ≡ is_bad token) → (ts : List Placed)
      → is_some (first_bad (map (plain f) ts)) ≡ is_some (first_bad ts)
  unfolding first_bad
  bad_plain same_depth same ts = ap (λ xs. is_some (slice_get (filter_map bad_offset xs) 0)) (outside_plain same_depth 0 ts) ∙ bad_some same (outside 0 ts)

  pub words_plain : ((depth : ℕ) (token : Token) → depth_after depth (f token) ≡ depth_after depth token) → ((token : Token) → move_word (f token) ≡ move_word token) → (ts : List Placed)
      → move_words (map (plain f) ts) ≡ move_words ts
  unfolding move_words
  words_plain same_depth same ts = ap (filter_map (λ (t : Placed). move_word t.token)) (outside_plain same_depth 0 ts) ∙ same_tokens move_word same (outside 0 ts)

  before_plain : ((token : Token) → is_bad (f token) ≡ is_bad token) → (ts : List Placed) → before_bad (map (plain f) ts) ≡ map (plain f) (before_bad ts)
  unfolding before_bad
  before_plain same [] = refl
  before_plain same (t ∷ ts) = ap (λ b. if b then [] else plain f t ∷ before_bad (map (plain f) ts)) (same t.token) ∙ by_test (is_bad t.token) (before_plain same ts)
    where
      by_test : (bad : Bool) → before_bad (map (plain f) ts) ≡ map (plain f) (before_bad ts) → (if bad then [] else plain f t ∷ before_bad (map (plain f) ts)) ≡ map (plain f) (if bad then [] else t ∷ before_bad ts)
      by_test true e = refl
      by_test false e = ap (λ us. plain f t ∷ us) e

  pub sound_plain : ((depth : ℕ) (token : Token) → depth_after depth (f token) ≡ depth_after depth token) → ((token : Token) → is_bad (f token) ≡ is_bad token)
      → ((token : Token) → move_word (f token) ≡ move_word token) → (ts : List Placed) → sound_words (map (plain f) ts) ≡ sound_words ts
  unfolding sound_words
  sound_plain same_depth same_bad same ts =
      ap (λ us. filter_map (λ (t : Placed). move_word t.token) (before_bad us)) (outside_plain same_depth 0 ts)
      ∙ ap (filter_map (λ (t : Placed). move_word t.token)) (before_plain same_bad (outside 0 ts))
      ∙ same_tokens move_word same (before_bad (outside 0 ts))

  pub open_plain : ((depth : ℕ) (token : Token) → depth_after depth (f token) ≡ depth_after depth token) → ((token : Token) → is_unclosed (f token) ≡ is_unclosed token) → (ts : List Placed)
      → is_open (map (plain f) ts) ≡ is_open ts
  unfolding is_open
  open_plain same_depth same ts =
      ap (λ b. if b then true else nat_lt 0 (depth_at_end (map (plain f) ts))) (any_plain is_unclosed same ts)
      ∙ ap (λ d. if list_any (λ (t : Placed). is_unclosed t.token) ts then true else nat_lt 0 d) (depth_plain same_depth 0 ts)

  -- the games of such tokens
  onto_plain : (t : Placed) (games : List (List Placed)) → onto (plain f t) (map (map (plain f)) games) ≡ map (map (plain f)) (onto t games)
  onto_plain t [] = refl
  onto_plain t (game ∷ games) = refl

  put_plain : (u : Turn) (t : Placed) (games : List (List Placed)) → put u (plain f t) (map (map (plain f)) games) ≡ map (map (plain f)) (put u t games)
  put_plain (Stays place) t games = onto_plain t games
  put_plain Ends t games = refl
  put_plain Begins t games = ap (λ later. [] ∷ later) (onto_plain t games)

  pub cut_plain : ((place : Place) (token : Token) → turn place (f token) ≡ turn place token) → (place : Place) (ts : List Placed) → cut place (map (plain f) ts) ≡ map (map (plain f)) (cut place ts)
  unfolding cut
  cut_plain same Before [] = refl
  cut_plain same Tags [] = refl
  cut_plain same (Moves depth) [] = refl
  cut_plain same place (t ∷ ts) =
      let u = turn place t.token in
      cut_step place (plain f t) (map (plain f) ts) ∙ ap (λ v. put v (plain f t) (cut (place_after v) (map (plain f) ts))) (same place t.token)
      ∙ ap (put u (plain f t)) (cut_plain same (place_after u) ts) ∙ put_plain u t (cut (place_after u) ts)
      ∙ ap (map (map (plain f))) (sym (cut_step place t ts))
