-- What is kept of the tokens of a game, with one token more.
use Rattle.std.proofs.Common.{◌≡◌, ℕ, zero, suc, ◌+◌, ◌≤◌, ◌==◌, Bool, true, false, ◌||◌, if◌then◌else◌, List, [], ◌∷◌, ◌++◌, Option, Some, None, length, take, refl, sym, ap, ◌∙◌, arith, append-nil, append_assoc, length-append}
use Rattle.std.specs.Prelude.{codes}
use Rattle.std.specs.List.{filter_map, cons_option, slice_get, fold, list_any}
use Rattle.std.specs.Option.{option_or}
use Rattle.std.proofs.lemmas.List.{length-take}
use Rattle.std.proofs.lemmas.List.Elements.{filter_map-append}
use Rattle.std.proofs.lemmas.List.Folds.{list_any-append}
use Rattle.std.proofs.lemmas.List.Sums.{fold_push}
use Rattle.std.proofs.lemmas.Bool.Decides.{nat_tests}
use Rattle.std.proofs.Math.Bool.{or-false}
use Rattle.pgn_lex.specs.declared.kinds.Placed.{Placed}
use Rattle.pgn_games.specs.declared.marks.ResultMark.{ResultMark}
use Rattle.pgn_games.specs.Cutting.{mark_of, depth_after}
use Rattle.pgn_games.specs.Fields.{outside, outside_at, depth_at_end, value_named, tag_value, move_word, move_words, bad_offset, first_bad, is_unclosed, is_cut}
use Rattle.pgn_games.specs.declared.played.Span.{Span}
use Rattle.pgn_games.specs.Games.{span_of}
use Rattle.pgn_games.specs.Summing.{span_with, word_outside, with_word, first_mark, HasValues, IsSummary}
use Rattle.pgn_games.proofs.Cuts.{deeper_by_one}

-- the first of two lists
first_of : {B : Type 0} (xs ys : List B) → slice_get (xs ++ ys) 0 ≡ option_or (slice_get xs 0) (slice_get ys 0)
first_of [] ys = refl
first_of (x ∷ xs) ys = refl

one_first : {B : Type 0} (o : Option B) → slice_get (cons_option o []) 0 ≡ o
one_first None = refl
one_first (Some b) = refl

-- the first answer of f, with one token more
first_more : {B : Type 0} (f : Placed → Option B) (told : List Placed) (t : Placed) → slice_get (filter_map f (told ++ t ∷ [])) 0 ≡ option_or (slice_get (filter_map f told) 0) (f t)
first_more f told t =
    ap (λ bs. slice_get bs 0) (filter_map-append f told (t ∷ [])) ∙ first_of (filter_map f told) (filter_map f (t ∷ []))
    ∙ ap (λ o. option_or (slice_get (filter_map f told) 0) o) (one_first (f t))

-- outside variations
abbrev depth_from : ℕ → List Placed → ℕ
depth_from depth told = fold (λ depth t. depth_after depth t.token) depth told

pub out_from : (depth : ℕ) (told : List Placed) (t : Placed) → outside depth (told ++ t ∷ []) ≡ outside depth told ++ outside_at (depth_from depth told) t
unfolding outside
out_from depth [] t = append-nil (outside_at depth t)
out_from depth (u ∷ told) t =
    ap (λ ts. outside_at depth u ++ ts) (out_from (depth_after depth u.token) told t)
    ∙ sym (append_assoc (outside_at depth u) (outside (depth_after depth u.token) told) (outside_at (depth_from (depth_after depth u.token) told) t))

here_by : {B : Type 0} (f : Placed → Option B) (top : Bool) (t : Placed) → slice_get (filter_map f (if top then t ∷ [] else [])) 0 ≡ (if top then f t else None)
here_by f true t = one_first (f t)
here_by f false t = refl

-- the first answer of f outside variations, with one token more
first_out : {B : Type 0} (f : Placed → Option B) (told : List Placed) (t : Placed)
    → slice_get (filter_map f (outside 0 (told ++ t ∷ []))) 0 ≡ option_or (slice_get (filter_map f (outside 0 told)) 0) (if depth_at_end told == 0 then f t else None)
first_out f told t =
    let depth = depth_at_end told in
    ap (λ ts. slice_get (filter_map f ts) 0) (out_from 0 told t) ∙ ap (λ bs. slice_get bs 0) (filter_map-append f (outside 0 told) (outside_at depth t))
    ∙ first_of (filter_map f (outside 0 told)) (filter_map f (outside_at depth t))
    ∙ ap (λ o. option_or (slice_get (filter_map f (outside 0 told)) 0) o) (here_by f (depth == 0) t)

-- the words
words_by : (top : Bool) (all : List (List ℕ)) (t : Placed) → all ++ filter_map (λ t. move_word t.token) (if top then t ∷ [] else []) ≡ with_word all (if top then move_word t.token else None)
words_by true all t = one_more (move_word t.token)
  where
    one_more : (o : Option (List ℕ)) → all ++ cons_option o [] ≡ with_word all o
    one_more None = append-nil all
    one_more (Some word) = refl
words_by false all t = append-nil all

words_more : (told : List Placed) (t : Placed) → move_words (told ++ t ∷ []) ≡ with_word (move_words told) (word_outside (depth_at_end told) t.token)
unfolding move_words
words_more told t =
    let depth = depth_at_end told in
    ap (filter_map (λ t. move_word t.token)) (out_from 0 told t) ∙ filter_map-append (λ t. move_word t.token) (outside 0 told) (outside_at depth t)
    ∙ words_by (depth == 0) (filter_map (λ t. move_word t.token) (outside 0 told)) t

-- of words that are cut off, one more is cut off alike
cut_alike : (n : ℕ) (all more : List (List ℕ)) → take n (take n all ++ more) ≡ take n (all ++ more)
cut_alike zero all more = refl
cut_alike (suc n) [] more = refl
cut_alike (suc n) (word ∷ all) more = ap (λ words. word ∷ words) (cut_alike n all more)

kept_with : (all : List (List ℕ)) (o : Option (List ℕ)) → take 12001 (with_word (take 12001 all) o) ≡ take 12001 (with_word all o)
kept_with all None = ap (take 12001) (sym (append-nil (take 12001 all))) ∙ cut_alike 12001 all [] ∙ ap (take 12001) (append-nil all)
kept_with all (Some word) = cut_alike 12001 all (word ∷ [])

-- nothing is kept of no token
nothing_yet : IsSummary [] true 0 None false false None [] × HasValues [] None None None × (◌≡◌ {A = Span} (record { start = 0; end = 0; line = 0 }) (span_of []))
unfolding span_of first_bad move_words outside tag_value
nothing_yet = (
  record { empty_is = refl; depth_is = refl; bad_is = refl; unclosed_is = refl; cut_is = refl; recorded_is = refl; words_is = refl },
  record { variant_is = refl; fen_is = refl; termination_is = refl },
  refl,
)

pub nothing_summed : (told : List Placed) (variant fen termination : Option (List ℕ)) (words : List (List ℕ)) → told ≡ [] → variant ≡ None → fen ≡ None → termination ≡ None → words ≡ []
    → IsSummary told true 0 None false false None words × HasValues told variant fen termination × (◌≡◌ {A = Span} (record { start = 0; end = 0; line = 0 }) (span_of told))
nothing_summed told variant fen termination words e f g h i = rw (e, f, g, h, i) nothing_yet

-- one token more
value_more : (name : List ℕ) (told : List Placed) (t : Placed) → tag_value name (told ++ t ∷ []) ≡ option_or (tag_value name told) (value_named name t.token)
unfolding tag_value
value_more name told t = first_more (λ t. value_named name t.token) told t

pub value_next : (name : List ℕ) (told : List Placed) (t : Placed) (value value' : Option (List ℕ)) → value ≡ tag_value name told → value' ≡ option_or value (value_named name t.token) → value' ≡ tag_value name (told ++ t ∷ [])
value_next name told t value value' e f = f ∙ ap (λ o. option_or o (value_named name t.token)) e ∙ sym (value_more name told t)

bad_more : (told : List Placed) (t : Placed) → first_bad (told ++ t ∷ []) ≡ option_or (first_bad told) (if depth_at_end told == 0 then bad_offset t else None)
unfolding first_bad
bad_more told t = first_out bad_offset told t

some_or : (test : Placed → Bool) (told : List Placed) (t : Placed) → list_any test (told ++ t ∷ []) ≡ (list_any test told || test t)
some_or test told t = list_any-append test told (t ∷ []) ∙ ap (λ b. list_any test told || b) (or-false (test t))

not_empty : (told : List Placed) (t : Placed) → false ≡ (length (told ++ t ∷ []) == 0)
not_empty told t = let n = length-append told (t ∷ []) in grind (arith, nat_tests)

pub summed : (told told' : List Placed) (t : Placed) (empty : Bool) (depth depth' : ℕ) (bad bad' : Option ℕ) (unclosed unclosed' cut cut' : Bool) (recorded recorded' : Option ResultMark) (words words' : List (List ℕ))
    → IsSummary told empty depth bad unclosed cut recorded words → told' ≡ told ++ t ∷ [] → depth' ≡ depth_after depth t.token
    → bad' ≡ option_or bad (if depth == 0 then bad_offset t else None) → unclosed' ≡ (unclosed || is_unclosed t.token) → cut' ≡ (cut || is_cut t.token)
    → recorded' ≡ option_or recorded (if depth == 0 then mark_of t.token else None) → words' ≡ take 12001 (with_word words (word_outside depth t.token))
    → IsSummary told' false depth' bad' unclosed' cut' recorded' words'
summed told told' t empty depth depth' bad bad' unclosed unclosed' cut cut' recorded recorded' words words' h e d b u c r w = rw e (record {
  empty_is = not_empty told t;
  depth_is = d ∙ ap (λ n. depth_after n t.token) h.depth_is ∙ sym (fold_push (λ depth t. depth_after depth t.token) 0 told t);
  bad_is = b ∙ ap (λ o. option_or o (if depth == 0 then bad_offset t else None)) h.bad_is ∙ ap (λ n. option_or (first_bad told) (if n == 0 then bad_offset t else None)) h.depth_is ∙ sym (bad_more told t);
  unclosed_is = u ∙ ap (λ b. b || is_unclosed t.token) h.unclosed_is ∙ sym (some_or (λ t. is_unclosed t.token) told t);
  cut_is = c ∙ ap (λ b. b || is_cut t.token) h.cut_is ∙ sym (some_or (λ t. is_cut t.token) told t);
  recorded_is = r ∙ ap (λ o. option_or o (if depth == 0 then mark_of t.token else None)) h.recorded_is ∙ ap (λ n. option_or (first_mark told) (if n == 0 then mark_of t.token else None)) h.depth_is ∙ sym (first_out (λ t. mark_of t.token) told t);
  words_is = w ∙ ap (λ n. take 12001 (with_word words (word_outside n t.token))) h.depth_is ∙ ap (λ ws. take 12001 (with_word ws (word_outside (depth_at_end told) t.token))) h.words_is
      ∙ kept_with (move_words told) (word_outside (depth_at_end told) t.token) ∙ ap (take 12001) (sym (words_more told t));
})

pub few_words : (told : List Placed) (words : List (List ℕ)) → words ≡ take 12001 (move_words told) → length words ≤ 12001
few_words told words e = let n = length-take 12001 (move_words told) in omega (arith, ap length e, n)

-- no deeper than there are tokens
deep : (n : ℕ) (told : List Placed) → depth_from n told ≤ n + length told
deep n [] = omega arith
deep n (t ∷ told) = omega (arith, deep (depth_after n t.token) told, deeper_by_one n t.token)

pub shallow : (told : List Placed) (depth : ℕ) → depth ≡ depth_at_end told → depth ≤ length told
shallow told depth e = omega (arith, e, deep 0 told)

span_more : (told : List Placed) (t : Placed) → span_of (told ++ t ∷ []) ≡ span_with (length told == 0) (span_of told) t
unfolding span_of
span_more [] t = refl
span_more (u ∷ told) t =
    ap (λ (e : ℕ). later u e) (fold_push (λ end later. later.end) u.end told t) ∙ ap (λ b. span_with b (span_of (u ∷ told)) t) (sym (some_length (length told)))
  where
    later : Placed → ℕ → Span
    later v e = record { start = v.offset; end = e; line = v.line }

    some_length : (n : ℕ) → (suc n == 0) ≡ false
    some_length n = grind (arith, nat_tests)

pub spanned : (told told' : List Placed) (t : Placed) (empty : Bool) (span span' : Span) → empty ≡ (length told == 0) → span ≡ span_of told → told' ≡ told ++ t ∷ [] → span' ≡ span_with empty span t → span' ≡ span_of told'
spanned told told' t empty span span' e f g h = h ∙ ap (λ b. span_with b span t) e ∙ ap (λ s. span_with (length told == 0) s t) f ∙ sym (span_more told t) ∙ ap span_of (sym g)

pub values_next : (told told' : List Placed) (t : Placed) (variant variant' fen fen' termination termination' : Option (List ℕ)) → HasValues told variant fen termination → told' ≡ told ++ t ∷ []
    → variant' ≡ option_or variant (value_named (codes "Variant") t.token) → fen' ≡ option_or fen (value_named (codes "FEN") t.token) → termination' ≡ option_or termination (value_named (codes "Termination") t.token)
    → HasValues told' variant' fen' termination'
values_next told told' t variant variant' fen fen' termination termination' h e v f g = rw e (record {
  variant_is = value_next (codes "Variant") told t variant variant' h.variant_is v;
  fen_is = value_next (codes "FEN") told t fen fen' h.fen_is f;
  termination_is = value_next (codes "Termination") told t termination termination' h.termination_is g;
})
