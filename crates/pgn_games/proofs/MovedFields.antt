-- What the tokens of a game say, where they stand further on.
use Rattle.std.proofs.Common.{◌≡◌, ℕ, ◌+◌, ◌<◌, ◌==◌, ◌||◌, Bool, true, false, not, if◌then◌else◌, List, [], ◌∷◌, ◌++◌, Option, Some, None, Result, Ok, Err, length, map, nat_lt, refl, sym, ap, ◌∙◌, arith}
use Rattle.std.specs.Prelude.{codes}
use Rattle.std.specs.List.{fold, filter_map, cons_option, slice_get, list_any}
use Rattle.std.specs.Option.{option_map, option_or, unwrap_or}
use Rattle.std.proofs.lemmas.List.{map-append}
use Rattle.cha_board.specs.Board.{Board}
use Rattle.cha_fen.specs.declared.faults.FenFault.{FenFault}
use Rattle.cha_fen.specs.Fen.{fen}
use Rattle.pgn_lex.specs.declared.kinds.Token.{Token}
use Rattle.pgn_lex.specs.declared.kinds.Placed.{Placed}
use Rattle.pgn_lex.proofs.Joining.{moved_token}
use Rattle.pgn_games.specs.declared.faults.GameFault.{GameFault}
use Rattle.pgn_games.specs.declared.faults.GameFault.TheVariants.{BadToken, Unclosed, ValueTooLong, Variant, TooManyPlies}
use Rattle.pgn_games.specs.declared.marks.ResultMark.TheVariants.{Unknown}
use Rattle.pgn_games.specs.Cutting.{mark_of, depth_after}
use Rattle.pgn_games.specs.Fields.{outside, depth_at_end, value_named, tag_value, recorded_in, move_word, move_words, is_bad, before_bad, sound_words, bad_offset, first_bad, is_unclosed, is_cut, passes, says_chess}
use Rattle.pgn_games.specs.Games.{is_open, start_fault, refusal, fault_if, fault_of, has_bad_tag, words_before_fault, game_of, span_of, placed_game_of}
use Rattle.pgn_games.specs.Moving.{moved_span, moved_fault, moved_game, moved}

module _ (n k : ℕ) where
  at_by : (b : Bool) (t : Placed) → (if b then moved_token n k t ∷ [] else []) ≡ map (moved_token n k) (if b then t ∷ [] else [])
  at_by true t = refl
  at_by false t = refl

  outside_moved : (depth : ℕ) (ts : List Placed) → outside depth (map (moved_token n k) ts) ≡ map (moved_token n k) (outside depth ts)
  unfolding outside
  outside_moved depth [] = refl
  outside_moved depth (t ∷ ts) =
      let rest = outside (depth_after depth t.token) ts in
      ap (λ xs. xs ++ outside (depth_after depth t.token) (map (moved_token n k) ts)) (at_by (depth == 0) t)
      ∙ ap (λ xs. map (moved_token n k) (if depth == 0 then t ∷ [] else []) ++ xs) (outside_moved (depth_after depth t.token) ts)
      ∙ sym (map-append (moved_token n k) (if depth == 0 then t ∷ [] else []) rest)

  same_tokens : {B : Type 0} (f : Token → Option B) (ts : List Placed) → filter_map (λ (t : Placed). f t.token) (map (moved_token n k) ts) ≡ filter_map (λ (t : Placed). f t.token) ts
  same_tokens f [] = refl
  same_tokens f (t ∷ ts) = ap (cons_option (f t.token)) (same_tokens f ts)

  bad_by : (b : Bool) (t : Placed) (xs : List ℕ) → cons_option (if b then Some (n + t.offset) else None) (map (λ (x : ℕ). n + x) xs) ≡ map (λ (x : ℕ). n + x) (cons_option (if b then Some t.offset else None) xs)
  bad_by true t xs = refl
  bad_by false t xs = refl

  bad_moved : (ts : List Placed) → filter_map bad_offset (map (moved_token n k) ts) ≡ map (λ (x : ℕ). n + x) (filter_map bad_offset ts)
  bad_moved [] = refl
  bad_moved (t ∷ ts) = ap (cons_option (bad_offset (moved_token n k t))) (bad_moved ts) ∙ bad_by (is_bad t.token) t (filter_map bad_offset ts)

  first_on : (xs : List ℕ) → slice_get (map (λ (x : ℕ). n + x) xs) 0 ≡ option_map (λ (x : ℕ). n + x) (slice_get xs 0)
  first_on [] = refl
  first_on (x ∷ xs) = refl

  any_moved : (test : Token → Bool) (ts : List Placed) → list_any (λ (t : Placed). test t.token) (map (moved_token n k) ts) ≡ list_any (λ (t : Placed). test t.token) ts
  any_moved test [] = refl
  any_moved test (t ∷ ts) = ap (λ b. test t.token || b) (any_moved test ts)

  depth_moved : (depth : ℕ) (ts : List Placed) → fold (λ depth (t : Placed). depth_after depth t.token) depth (map (moved_token n k) ts) ≡ fold (λ depth (t : Placed). depth_after depth t.token) depth ts
  depth_moved depth [] = refl
  depth_moved depth (t ∷ ts) = depth_moved (depth_after depth t.token) ts

  tag_moved : (name : List ℕ) (ts : List Placed) → tag_value name (map (moved_token n k) ts) ≡ tag_value name ts
  unfolding tag_value
  tag_moved name ts = ap (λ xs. slice_get xs 0) (same_tokens (value_named name) ts)

  recorded_moved : (ts : List Placed) → recorded_in (map (moved_token n k) ts) ≡ recorded_in ts
  unfolding recorded_in
  recorded_moved ts =
      ap (λ xs. unwrap_or (slice_get (filter_map (λ (t : Placed). mark_of t.token) xs) 0) Unknown) (outside_moved 0 ts)
      ∙ ap (λ xs. unwrap_or (slice_get xs 0) Unknown) (same_tokens mark_of (outside 0 ts))

  words_moved : (ts : List Placed) → move_words (map (moved_token n k) ts) ≡ move_words ts
  unfolding move_words
  words_moved ts = ap (filter_map (λ (t : Placed). move_word t.token)) (outside_moved 0 ts) ∙ same_tokens move_word (outside 0 ts)

  before_moved : (ts : List Placed) → before_bad (map (moved_token n k) ts) ≡ map (moved_token n k) (before_bad ts)
  unfolding before_bad
  before_moved [] = refl
  before_moved (t ∷ ts) = by_test (is_bad t.token) (before_moved ts)
    where
      by_test : (bad : Bool) → before_bad (map (moved_token n k) ts) ≡ map (moved_token n k) (before_bad ts) → (if bad then [] else moved_token n k t ∷ before_bad (map (moved_token n k) ts)) ≡ map (moved_token n k) (if bad then [] else t ∷ before_bad ts)
      by_test true h = refl
      by_test false h = ap (λ us. moved_token n k t ∷ us) h

  sound_moved : (ts : List Placed) → sound_words (map (moved_token n k) ts) ≡ sound_words ts
  unfolding sound_words
  sound_moved ts =
      ap (λ us. filter_map (λ (t : Placed). move_word t.token) (before_bad us)) (outside_moved 0 ts)
      ∙ ap (filter_map (λ (t : Placed). move_word t.token)) (before_moved (outside 0 ts)) ∙ same_tokens move_word (before_bad (outside 0 ts))

  first_moved : (ts : List Placed) → first_bad (map (moved_token n k) ts) ≡ option_map (λ (x : ℕ). n + x) (first_bad ts)
  unfolding first_bad
  first_moved ts =
      ap (λ xs. slice_get (filter_map bad_offset xs) 0) (outside_moved 0 ts) ∙ ap (λ xs. slice_get xs 0) (bad_moved (outside 0 ts)) ∙ first_on (filter_map bad_offset (outside 0 ts))

  open_moved : (ts : List Placed) → is_open (map (moved_token n k) ts) ≡ is_open ts
  unfolding is_open
  open_moved ts =
      ap (λ b. if b then true else nat_lt 0 (depth_at_end (map (moved_token n k) ts))) (any_moved is_unclosed ts)
      ∙ ap (λ d. if list_any (λ (t : Placed). is_unclosed t.token) ts then true else nat_lt 0 d) (depth_moved 0 ts)

  -- faults that name no place
  abbrev Still : Option GameFault → Type 0
  Still o = option_map (moved_fault n) o ≡ o

  still_or : (a b : Option GameFault) → Still a → Still b → Still (option_or a b)
  still_or None b h i = i
  still_or (Some x) b h i = h

  still_if : (c : Bool) (fault : GameFault) → moved_fault n fault ≡ fault → Still (fault_if c fault)
  still_if true fault e = ap (λ f. Some f) e
  still_if false fault e = refl

  still_refusal : (r : Result Board FenFault) → Still (refusal r)
  still_refusal (Ok q) = refl
  still_refusal (Err f) = refl

  still_start : (o : Option (List ℕ)) → Still (start_fault o)
  unfolding start_fault
  still_start None = refl
  still_start (Some value) = still_refusal (fen value)

  chain : (x : Option ℕ) (rest : Option GameFault) → Still rest → option_or (option_map BadToken (option_map (λ (x : ℕ). n + x) x)) rest ≡ option_map (moved_fault n) (option_or (option_map BadToken x) rest)
  chain None rest h = sym h
  chain (Some x) rest h = refl

  fault_moved : (ts : List Placed) → fault_of (map (moved_token n k) ts) ≡ option_map (moved_fault n) (fault_of ts)
  unfolding fault_of
  fault_moved ts =
      let variant = fault_if (passes (λ value. not (says_chess value)) (tag_value (codes "Variant") ts)) Variant in
      let start = start_fault (tag_value (codes "FEN") ts) in
      let many = fault_if (nat_lt 12000 (length (move_words ts))) TooManyPlies in
      let cut = fault_if (list_any (λ (t : Placed). is_cut t.token) ts) ValueTooLong in
      let open_one = fault_if (is_open ts) Unclosed in
      let four : Still (option_or start many) = still_or start many (still_start (tag_value (codes "FEN") ts)) (still_if (nat_lt 12000 (length (move_words ts))) TooManyPlies refl) in
      let three : Still (option_or variant (option_or start many)) =
      still_or variant (option_or start many) (still_if (passes (λ value. not (says_chess value)) (tag_value (codes "Variant") ts)) Variant refl) four in
      let two : Still (option_or cut (option_or variant (option_or start many))) =
      still_or cut (option_or variant (option_or start many)) (still_if (list_any (λ (t : Placed). is_cut t.token) ts) ValueTooLong refl) three in
      let one : Still (option_or open_one (option_or cut (option_or variant (option_or start many)))) =
      still_or open_one (option_or cut (option_or variant (option_or start many))) (still_if (is_open ts) Unclosed refl) two in
      rw (first_moved ts, open_moved ts, any_moved is_cut ts, tag_moved (codes "Variant") ts, tag_moved (codes "FEN") ts, words_moved ts)
      (chain (first_bad ts) (option_or open_one (option_or cut (option_or variant (option_or start many)))) one)

  tags_moved : (ts : List Placed) → has_bad_tag (map (moved_token n k) ts) ≡ has_bad_tag ts
  unfolding has_bad_tag
  tags_moved ts = rw (any_moved is_cut ts, tag_moved (codes "Variant") ts, tag_moved (codes "FEN") ts) refl

  before_fault_moved : (ts : List Placed) → words_before_fault (map (moved_token n k) ts) ≡ words_before_fault ts
  unfolding words_before_fault
  before_fault_moved ts = rw (tags_moved ts, sound_moved ts) refl

  game_told_moved : (ts : List Placed) → game_of (map (moved_token n k) ts) ≡ moved_game n (game_of ts)
  unfolding game_of
  game_told_moved ts = rw (tag_moved (codes "FEN") ts, tag_moved (codes "Termination") ts, recorded_moved ts, words_moved ts, before_fault_moved ts, fault_moved ts) refl

  end_moved : (end : ℕ) (ts : List Placed) → fold (λ end (later : Placed). later.end) (n + end) (map (moved_token n k) ts) ≡ n + fold (λ end (later : Placed). later.end) end ts
  end_moved end [] = refl
  end_moved end (t ∷ ts) = end_moved t.end ts

  span_moved : (t : Placed) (ts : List Placed) → span_of (map (moved_token n k) (t ∷ ts)) ≡ moved_span n k (span_of (t ∷ ts))
  unfolding span_of
  span_moved t ts = rw (end_moved t.end ts) refl

  pub game_moved : (ts : List Placed) → 0 < length ts → placed_game_of (map (moved_token n k) ts) ≡ moved n k (placed_game_of ts)
  game_moved [] some = absurd (omega arith)
  game_moved (t ∷ ts) some = rw (span_moved t ts, game_told_moved (t ∷ ts)) refl
