-- Words before the first bad token.
use Rattle.std.proofs.Common.{◌≡◌, ℕ, ◌==◌, min, Bool, true, false, if◌then◌else◌, List, [], ◌∷◌, ◌++◌, Option, Some, None, is_some, length, take, refl, sym, ap, ◌∙◌, arith, append-nil}
use Rattle.std.specs.List.{filter_map, cons_option, slice_get}
use Rattle.std.proofs.lemmas.List.{length-take}
use Rattle.pgn_lex.specs.declared.kinds.Placed.{Placed}
use Rattle.pgn_games.specs.Fields.{outside, depth_at_end, move_word, move_words, bad_offset, first_bad, before_bad, sound_words, is_bad}
use Rattle.pgn_games.specs.Summing.{sound_count}
use Rattle.pgn_games.proofs.Summed.{out_from}

-- the first bad one of tokens
abbrev bad_in : List Placed → Option ℕ
bad_in ts = slice_get (filter_map bad_offset ts) 0

-- where none is bad, all are before it
all_before : (ts : List Placed) → is_some (bad_in ts) ≡ false → before_bad ts ≡ ts
unfolding before_bad
all_before [] none = refl
all_before (t ∷ ts) none = by_test (is_bad t.token) (all_before ts) none
  where
    by_test : (bad : Bool) → (is_some (bad_in ts) ≡ false → before_bad ts ≡ ts) → is_some (slice_get (cons_option (if bad then Some t.offset else None) (filter_map bad_offset ts)) 0) ≡ false → (if bad then [] else t ∷ before_bad ts) ≡ t ∷ ts
    by_test true h none = absurd cc
    by_test false h none = ap (λ us. t ∷ us) (h none)

-- where one is bad, the last token is not before it
none_added : (ts : List Placed) (t : Placed) → is_some (bad_in (ts ++ t ∷ [])) ≡ true → before_bad (ts ++ t ∷ []) ≡ before_bad ts
unfolding before_bad
none_added [] t some = by_test (is_bad t.token) some
  where
    by_test : (bad : Bool) → is_some (slice_get (cons_option (if bad then Some t.offset else None) []) 0) ≡ true → (if bad then [] else t ∷ []) ≡ []
    by_test true some = refl
    by_test false some = absurd cc
none_added (u ∷ ts) t some = by_test (is_bad u.token) (none_added ts t) some
  where
    by_test : (bad : Bool) → (is_some (bad_in (ts ++ t ∷ [])) ≡ true → before_bad (ts ++ t ∷ []) ≡ before_bad ts)
        → is_some (slice_get (cons_option (if bad then Some u.offset else None) (filter_map bad_offset (ts ++ t ∷ []))) 0) ≡ true → (if bad then [] else u ∷ before_bad (ts ++ t ∷ [])) ≡ (if bad then [] else u ∷ before_bad ts)
    by_test true h some = refl
    by_test false h some = ap (λ us. u ∷ us) (h some)

-- outside variations
pub all_sound : (told : List Placed) → is_some (first_bad told) ≡ false → sound_words told ≡ move_words told
unfolding first_bad sound_words move_words
all_sound told none = ap (filter_map (λ t. move_word t.token)) (all_before (outside 0 told) none)

none_sounder : (told : List Placed) (t : Placed) → is_some (first_bad (told ++ t ∷ [])) ≡ true → sound_words (told ++ t ∷ []) ≡ sound_words told
unfolding first_bad sound_words
none_sounder told t some =
    ap (λ ts. filter_map (λ t. move_word t.token) (before_bad ts)) (out_from 0 told t)
    ∙ ap (filter_map (λ t. move_word t.token)) (by_depth (depth_at_end told == 0) (sym (ap (λ ts. is_some (bad_in ts)) (out_from 0 told t)) ∙ some))
  where
    by_depth : (top : Bool) → is_some (bad_in (outside 0 told ++ (if top then t ∷ [] else []))) ≡ true → before_bad (outside 0 told ++ (if top then t ∷ [] else [])) ≡ before_bad (outside 0 told)
    by_depth true some = none_added (outside 0 told) t some
    by_depth false some = ap before_bad (append-nil (outside 0 told))

-- how many there are, with one token more
pub sound_next : (told told' : List Placed) (t : Placed) (bad : Option ℕ) (words : List (List ℕ)) (sound sound' : ℕ) → bad ≡ first_bad told' → words ≡ take 12001 (move_words told') → sound ≡ sound_count told
    → told' ≡ told ++ t ∷ [] → sound' ≡ (if is_some bad then sound else min 12000 (length words)) → sound' ≡ sound_count told'
sound_next told told' t bad words sound sound' b w s e f = f ∙ by_test (is_some bad) refl
  where
    by_test : (test : Bool) → is_some bad ≡ test → (if test then sound else min 12000 (length words)) ≡ sound_count told'
    by_test true is =
        let some : is_some (first_bad (told ++ t ∷ [])) ≡ true = ap (λ ts. is_some (first_bad ts)) (sym e) ∙ ap is_some (sym b) ∙ is in
        s ∙ ap (λ ws. length (take 12000 ws)) (sym (none_sounder told t some) ∙ ap sound_words (sym e))
    by_test false is =
        let none : is_some (first_bad told') ≡ false = ap is_some (sym b) ∙ is in
        least (length words) (length (move_words told')) (ap length w ∙ length-take 12001 (move_words told')) ∙ sym (length-take 12000 (move_words told'))
        ∙ ap (λ ws. length (take 12000 ws)) (sym (all_sound told' none))
      where
        least : (k n : ℕ) → k ≡ min 12001 n → min 12000 k ≡ min 12000 n
        least k n e = omega arith

pub none_sound : (told : List Placed) → told ≡ [] → 0 ≡ sound_count told
unfolding sound_words outside before_bad
none_sound told e = rw e refl
