-- What the games of a corrected text say.
use Rattle.std.proofs.Common.{◌≡◌, ℕ, ◌==◌, ◌&&◌, ◌||◌, Bool, true, false, not, if◌then◌else◌, is_some, List, [], ◌∷◌, ◌++◌, Option, Some, None, map, refl, sym, ap, ◌∙◌}
use Rattle.std.specs.Prelude.{codes}
use Rattle.std.specs.List.{filter_map, slice_get, list_any}
use Rattle.std.specs.Option.{option_or, unwrap_or}
use Rattle.pgn_lex.specs.declared.kinds.Token.{Token}
use Rattle.pgn_lex.specs.declared.kinds.Token.TheVariants.{Tag, BadTag, Word, Star, Enter, Leave, Bad, Unclosed}
use Rattle.pgn_lex.specs.declared.kinds.Placed.{Placed}
use Rattle.pgn_games.specs.declared.faults.GameFault.{GameFault}
use Rattle.pgn_games.specs.declared.marks.ResultMark.{ResultMark}
use Rattle.pgn_games.specs.declared.marks.ResultMark.TheVariants.{WhiteWins, BlackWins, Draw, Unknown}
use Rattle.pgn_games.specs.Cutting.{mark_of, depth_after, cut}
use Rattle.pgn_games.specs.Fields.{outside, tag_value, recorded_in, move_words, sound_words, first_bad, is_cut}
use Rattle.pgn_games.specs.Games.{is_open, fault_if, fault_of, game_of}
use Rattle.pgn_results.specs.Replacing.{is_result_tag, is_result_at, has_result}
use Rattle.pgn_results.specs.Kept.{told_with, told}
use Rattle.pgn_results.proofs.TokenKinds.{kinds}
use Rattle.pgn_results.proofs.TokenReplaced.{mark_token}
use Rattle.pgn_results.proofs.Marked.{retold, marked_kinds}
use Rattle.pgn_results.proofs.Normal.{normal, normal_depth, normal_bad, normal_unclosed, normal_word, normal_value, marked_normal}
use Rattle.pgn_results.proofs.SameFields.{said, plain, same_tokens, outside_plain, tag_plain, bad_plain, words_plain, sound_plain, open_plain}

-- a token without its place
abbrev pub bare : Token → Placed
bare token = record { token = token; offset = 0; end = 0; line = 0 }

pub plain_kinds : (f : Token → Token) (ts : List Placed) → map (plain f) ts ≡ map (λ k. bare (f k)) (kinds ts)
plain_kinds f [] = refl
plain_kinds f (t ∷ ts) = ap (λ xs. plain f t ∷ xs) (plain_kinds f ts)

normal_bare : (ks : List Token) → map (λ k. bare (normal k)) ks ≡ map bare (map normal ks)
normal_bare [] = refl
normal_bare (k ∷ ks) = ap (λ xs. bare (normal k) ∷ xs) (normal_bare ks)

pub same_plain : (xs ys : List Placed) → map normal (kinds xs) ≡ map normal (kinds ys) → map (plain normal) xs ≡ map (plain normal) ys
same_plain xs ys e = plain_kinds normal xs ∙ normal_bare (kinds xs) ∙ ap (map bare) e ∙ sym (normal_bare (kinds ys)) ∙ sym (plain_kinds normal ys)

any_kinds : (test : Token → Bool) (ts : List Placed) → list_any (λ (t : Placed). test t.token) ts ≡ list_any test (kinds ts)
any_kinds test [] = refl
any_kinds test (t ∷ ts) = ap (λ b. test t.token || b) (any_kinds test ts)

-- what games say beside their results
bridge : {B : Type 0} (f : List Placed → B) → ((ts : List Placed) → f (map (plain normal) ts) ≡ f ts) → (xs ys : List Placed) → map (plain normal) xs ≡ map (plain normal) ys → f xs ≡ f ys
bridge f same xs ys e = sym (same xs) ∙ ap f e ∙ same ys

same_said : (mark : ResultMark) (xs ys : List Placed) → map normal (kinds xs) ≡ map normal (kinds ys) → list_any (λ (t : Placed). is_cut t.token) xs ≡ list_any (λ (t : Placed). is_cut t.token) ys
    → told_with mark (game_of xs) ≡ told_with mark (game_of ys)
same_said mark xs ys e cut_same =
    let p = same_plain xs ys e in
    let bad = bridge (λ ts. is_some (first_bad ts)) (bad_plain normal normal_depth normal_bad) xs ys p in
    let unclosed = bridge is_open (open_plain normal normal_depth normal_unclosed) xs ys p in
    let variant = bridge (tag_value (codes "Variant")) (tag_plain normal (codes "Variant") (λ k. normal_value (codes "Variant") k refl)) xs ys p in
    let fen = bridge (tag_value (codes "FEN")) (tag_plain normal (codes "FEN") (λ k. normal_value (codes "FEN") k refl)) xs ys p in
    let termination = bridge (tag_value (codes "Termination")) (tag_plain normal (codes "Termination") (λ k. normal_value (codes "Termination") k refl)) xs ys p in
    let words = bridge move_words (words_plain normal normal_depth normal_word) xs ys p in
    let sound = bridge sound_words (sound_plain normal normal_depth normal_bad normal_word) xs ys p in
    said mark xs ∙ (rw (bad, unclosed, cut_same, variant, fen, termination, words, sound) refl) ∙ sym (said mark ys)

marks_plain : (ts : List Placed) → filter_map (λ (t : Placed). mark_of t.token) (outside 0 (map (plain (λ k. k)) ts)) ≡ filter_map (λ (t : Placed). mark_of t.token) (outside 0 ts)
marks_plain ts =
    ap (filter_map (λ (t : Placed). mark_of t.token)) (outside_plain (λ k. k) (λ depth k. refl) 0 ts) ∙ same_tokens (λ k. k) mark_of (λ k. refl) (outside 0 ts)

recorded_bare : (ts : List Placed) → recorded_in ts ≡ recorded_in (map bare (kinds ts))
unfolding recorded_in
recorded_bare ts = ap (λ xs. unwrap_or (slice_get xs 0) Unknown) (sym (marks_plain ts)) ∙ ap (λ xs. unwrap_or (slice_get (filter_map (λ (t : Placed). mark_of t.token) (outside 0 xs)) 0) Unknown) (plain_kinds (λ k. k) ts)

pub same_kinds : (xs ys : List Placed) → kinds xs ≡ kinds ys → told (game_of xs) ≡ told (game_of ys)
unfolding game_of
same_kinds xs ys e =
    let recorded : recorded_in xs ≡ recorded_in ys = recorded_bare xs ∙ ap (λ ks. recorded_in (map bare ks)) e ∙ sym (recorded_bare ys) in
    ap (λ mark. told_with mark (game_of xs)) recorded
    ∙ same_said (recorded_in ys) xs ys (ap (map normal) e) (any_kinds is_cut xs ∙ ap (list_any is_cut) e ∙ sym (any_kinds is_cut ys))

-- the result of a game that got one
retold_mark : (again : Bool) (mark : ResultMark) (token : Token) → mark_of (retold again mark token) ≡ mark_of token
unfolding mark_of
retold_mark false mark token = refl
retold_mark true mark (Tag name value cut) = refl
retold_mark true mark BadTag = refl
retold_mark true mark (Word word) = refl
retold_mark true mark Star = refl
retold_mark true mark Enter = refl
retold_mark true mark Leave = refl
retold_mark true mark Bad = refl
retold_mark true mark Unclosed = refl

retold_depth : (again : Bool) (mark : ResultMark) (depth : ℕ) (token : Token) → depth_after depth (retold again mark token) ≡ depth_after depth token
unfolding depth_after
retold_depth false mark depth token = refl
retold_depth true mark depth (Tag name value cut) = refl
retold_depth true mark depth BadTag = refl
retold_depth true mark depth (Word word) = refl
retold_depth true mark depth Star = refl
retold_depth true mark depth Enter = refl
retold_depth true mark depth Leave = refl
retold_depth true mark depth Bad = refl
retold_depth true mark depth Unclosed = refl

told_mark : (mark : ResultMark) → mark_of (mark_token mark) ≡ Some mark
unfolding mark_of
told_mark WhiteWins = refl
told_mark BlackWins = refl
told_mark Draw = refl
told_mark Unknown = refl

abbrev marks : List Placed → List ResultMark
marks ts = filter_map (λ (t : Placed). mark_of t.token) ts

abbrev has_mark_in : List Placed → Bool
has_mark_in ts = list_any (λ (t : Placed). is_some (mark_of t.token)) ts

first_by : (top some : Bool) (mark : ResultMark) (o : Option ResultMark) (t u : Placed) (ts us : List Placed) → is_some (mark_of t.token) ≡ some → mark_of u.token ≡ o
    → ((top && some) ≡ true → o ≡ Some mark) → ((top && some) ≡ false → is_some o ≡ some) → ((top && some) ≡ false → slice_get (marks us) 0 ≡ (if has_mark_in ts then Some mark else None))
    → slice_get (marks ((if top then u ∷ [] else []) ++ us)) 0 ≡ (if has_mark_in ((if top then t ∷ [] else []) ++ ts) then Some mark else None)
first_by true true mark o t u ts us d e h k later = rw (d, e, h refl) refl
first_by true false mark None t u ts us d e h k later = rw (d, e) (later refl)
first_by true false mark (Some x) t u ts us d e h k later = let f : true ≡ false = k refl in cc
first_by false some mark o t u ts us d e h k later = later refl

mark_by : (ends tagged : Bool) (depth : ℕ) (mark : ResultMark) (t : Placed) (ts : List Placed) → is_result_at depth t.token ≡ ends
    → slice_get (marks (outside (depth_after depth t.token) (map bare (marked_kinds (tagged || is_result_tag t.token) (depth_after depth t.token) mark ts)))) 0
    ≡ (if has_mark_in (outside (depth_after depth t.token) ts) then Some mark else None)
    → slice_get (marks (outside depth (map bare (marked_kinds tagged depth mark (t ∷ ts))))) 0 ≡ (if has_mark_in (outside depth (t ∷ ts)) then Some mark else None)
unfolding marked_kinds outside
mark_by true tagged depth mark t ts d later =
    rw d (first_by (depth == 0) (is_some (mark_of t.token)) mark (mark_of (mark_token mark)) t (bare (mark_token mark)) (outside (depth_after depth t.token) ts)
    (outside (depth_after depth (mark_token mark)) (map bare (kinds ts))) refl refl (λ e. told_mark mark) (λ e. let no : true ≡ false = sym d ∙ e in cc) (λ e. let no : true ≡ false = sym d ∙ e in cc))
mark_by false tagged depth mark t ts d later =
    let again = is_result_tag t.token && not tagged in
    rw d (first_by (depth == 0) (is_some (mark_of t.token)) mark (mark_of (retold again mark t.token)) t (bare (retold again mark t.token)) (outside (depth_after depth t.token) ts)
    (outside (depth_after depth (retold again mark t.token)) (map bare (marked_kinds (tagged || is_result_tag t.token) (depth_after depth t.token) mark ts))) refl refl
    (λ e. let no : true ≡ false = sym e ∙ d in cc) (λ e. ap is_some (retold_mark again mark t.token))
    (λ e. ap (λ n. slice_get (marks (outside n (map bare (marked_kinds (tagged || is_result_tag t.token) (depth_after depth t.token) mark ts)))) 0) (retold_depth again mark depth t.token) ∙ later))

mark_first : (tagged : Bool) (depth : ℕ) (mark : ResultMark) (ts : List Placed) → slice_get (marks (outside depth (map bare (marked_kinds tagged depth mark ts)))) 0 ≡ (if has_mark_in (outside depth ts) then Some mark else None)
unfolding marked_kinds outside
mark_first tagged depth mark [] = refl
mark_first tagged depth mark (t ∷ ts) =
    mark_by (is_result_at depth t.token) tagged depth mark t ts refl (mark_first (tagged || is_result_tag t.token) (depth_after depth t.token) mark ts)

-- no value is cut
neither : (v w : Bool) → (v || w) ≡ false → (v ≡ false) × (w ≡ false)
neither true w e = cc
neither false w e = (refl, e)

mark_whole : (mark : ResultMark) → is_cut (mark_token mark) ≡ false
unfolding is_cut
mark_whole WhiteWins = refl
mark_whole BlackWins = refl
mark_whole Draw = refl
mark_whole Unknown = refl

retold_whole : (again : Bool) (mark : ResultMark) (token : Token) → is_cut token ≡ false → is_cut (retold again mark token) ≡ false
unfolding is_cut
retold_whole false mark token e = e
retold_whole true mark (Tag name value cut) e = refl
retold_whole true mark BadTag e = refl
retold_whole true mark (Word word) e = refl
retold_whole true mark Star e = refl
retold_whole true mark Enter e = refl
retold_whole true mark Leave e = refl
retold_whole true mark Bad e = refl
retold_whole true mark Unclosed e = refl

whole_by : (ends tagged : Bool) (depth : ℕ) (mark : ResultMark) (t : Placed) (ts : List Placed) → is_result_at depth t.token ≡ ends → is_cut t.token ≡ false → list_any is_cut (kinds ts) ≡ false
    → list_any is_cut (marked_kinds (tagged || is_result_tag t.token) (depth_after depth t.token) mark ts) ≡ false → list_any is_cut (marked_kinds tagged depth mark (t ∷ ts)) ≡ false
unfolding marked_kinds
whole_by true tagged depth mark t ts d one rest later = rw (d, mark_whole mark) rest
whole_by false tagged depth mark t ts d one rest later = rw (d, retold_whole (is_result_tag t.token && not tagged) mark t.token one) later

marked_whole : (tagged : Bool) (depth : ℕ) (mark : ResultMark) (ts : List Placed) → list_any is_cut (kinds ts) ≡ false → list_any is_cut (marked_kinds tagged depth mark ts) ≡ false
unfolding marked_kinds
marked_whole tagged depth mark [] e = refl
marked_whole tagged depth mark (t ∷ ts) e =
    let n = neither (is_cut t.token) (list_any is_cut (kinds ts)) e in
    whole_by (is_result_at depth t.token) tagged depth mark t ts refl n.0 n.1 (marked_whole (tagged || is_result_tag t.token) (depth_after depth t.token) mark ts n.1)

none_or : (a b : Option GameFault) → option_or a b ≡ None → (a ≡ None) × (b ≡ None)
none_or None b e = (refl, e)
none_or (Some x) b e = cc

no_cause : (c : Bool) (fault : GameFault) → fault_if c fault ≡ None → c ≡ false
no_cause true fault e = cc
no_cause false fault e = refl

none_cut : (ts : List Placed) → fault_of ts ≡ None → list_any (λ (t : Placed). is_cut t.token) ts ≡ false
unfolding fault_of
none_cut ts e = no_cause _ _ (none_or _ _ (none_or _ _ (none_or _ _ e).1).1).0

-- the game that got a result
marked_said : (mark : ResultMark) (xs ys : List Placed) → kinds xs ≡ marked_kinds false 0 mark ys → fault_of ys ≡ None
    → (other : ResultMark) → told_with other (game_of xs) ≡ told_with other (game_of ys)
marked_said mark xs ys e fine other =
    let whole = none_cut ys fine in
    let cut : list_any (λ (t : Placed). is_cut t.token) xs ≡ false =
    any_kinds is_cut xs ∙ ap (list_any is_cut) e ∙ marked_whole false 0 mark ys (sym (any_kinds is_cut ys) ∙ whole) in
    same_said other xs ys (ap (map normal) e ∙ marked_normal false 0 mark ys) (cut ∙ sym whole)

marked_recorded : (mark : ResultMark) (xs ys : List Placed) → kinds xs ≡ marked_kinds false 0 mark ys → recorded_in xs ≡ unwrap_or (if has_result ys then Some mark else None) Unknown
unfolding recorded_in has_result
marked_recorded mark xs ys e =
    recorded_bare xs ∙ ap (λ ks. recorded_in (map bare ks)) e ∙ ap (λ o. unwrap_or o Unknown) (mark_first false 0 mark ys)

no_marks : (ts : List Placed) → has_mark_in ts ≡ false → marks ts ≡ []
no_marks [] e = refl
no_marks (t ∷ ts) e = let n = neither (is_some (mark_of t.token)) (has_mark_in ts) e in rw (none_there (mark_of t.token) n.0) (no_marks ts n.1)
  where
    none_there : (o : Option ResultMark) → is_some o ≡ false → o ≡ None
    none_there None e = refl
    none_there (Some x) e = cc

unrecorded : (ts : List Placed) → has_result ts ≡ false → recorded_in ts ≡ Unknown
unfolding recorded_in has_result
unrecorded ts e = ap (λ xs. unwrap_or (slice_get xs 0) Unknown) (no_marks (outside 0 ts) e)

marked_told_by : (has : Bool) (mark : ResultMark) (xs ys : List Placed) → has_result ys ≡ has → kinds xs ≡ marked_kinds false 0 mark ys → fault_of ys ≡ None
    → told_with (recorded_in xs) (game_of xs) ≡ (if has then told_with mark (game_of ys) else told_with (recorded_in ys) (game_of ys))
marked_told_by true mark xs ys d e fine =
    ap (λ m. told_with m (game_of xs)) (marked_recorded mark xs ys e ∙ ap (λ b. unwrap_or (if b then Some mark else None) Unknown) d) ∙ marked_said mark xs ys e fine mark
marked_told_by false mark xs ys d e fine =
    ap (λ m. told_with m (game_of xs)) (marked_recorded mark xs ys e ∙ ap (λ b. unwrap_or (if b then Some mark else None) Unknown) d ∙ sym (unrecorded ys d)) ∙ marked_said mark xs ys e fine (recorded_in ys)

pub marked_told : (mark : ResultMark) (xs ys : List Placed) → kinds xs ≡ marked_kinds false 0 mark ys → (game_of ys).fault ≡ None
    → told (game_of xs) ≡ (if has_result ys then told_with mark (game_of ys) else told (game_of ys))
unfolding game_of
marked_told mark xs ys e fine = marked_told_by (has_result ys) mark xs ys refl e fine
