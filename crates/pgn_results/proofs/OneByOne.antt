-- A corrected text, game by game.
use Rattle.std.proofs.Common.{◌≡◌, ℕ, zero, suc, ◌+◌, ◌<◌, ◌≤◌, ◌==◌, Bool, true, false, not, ◌&&◌, ◌||◌, if◌then◌else◌, is_some, List, [], ◌∷◌, ◌++◌, Option, Some, None, length, map, take, drop, refl, sym, ap, ◌∙◌, subst, arith, append_assoc}
use Rattle.std.specs.List.{All, fold, cons_option, slice_get}
use Rattle.std.specs.Option.{option_map, option_or}
use Rattle.std.proofs.lemmas.List.{take-append-drop, take-append-le, drop-append-le, map-append}
use Rattle.std.proofs.lemmas.List.Elements.{All-head, All-tail}
use Rattle.std.proofs.lemmas.List.Sums.{fold_push}
use Rattle.pgn_lex.specs.declared.kinds.Placed.{Placed}
use Rattle.pgn_lex.specs.Tokens.{tokens, has_mark, tokens_after}
use Rattle.pgn_lex.proofs.Joining.{moved_token}
use Rattle.pgn_games.specs.declared.faults.GameFault.{GameFault}
use Rattle.pgn_games.specs.declared.faults.GameFault.TheVariants.{BadToken}
use Rattle.pgn_games.specs.declared.marks.ResultMark.{ResultMark}
use Rattle.pgn_games.specs.declared.token_turns.Place.TheVariants.{Before}
use Rattle.pgn_games.specs.Cutting.{mark_of, mark_text, depth_after, cut}
use Rattle.pgn_games.specs.Fields.{outside, is_bad, first_bad}
use Rattle.pgn_games.specs.Games.{fault_of, game_of, span_of, placed_game_of, placed_games}
use Rattle.pgn_games.proofs.EachToken.{none_lost, none_empty}
use Rattle.pgn_results.specs.Replacing.{leans, begins_word, apart, with_token, with_value, with_tag_if, is_result_tag, is_result_at, with_mark, is_word, has_result, space_behind, game_with_mark}
use Rattle.pgn_results.specs.Correcting.{corrected_games, corrected, between, written}
use Rattle.pgn_results.specs.Kept.{OnlyReadable, begins_with_result, OnlyBegun}
use Rattle.pgn_results.proofs.Standing.{From}
use Rattle.pgn_results.proofs.OwnTokens.{Own, own}
use Rattle.pgn_results.proofs.Marked.{joined, right_true}
use Rattle.pgn_results.proofs.TagReplaced.{take_front, drop_front}
use Rattle.pgn_results.proofs.Alone.{Ended, Late, spaced, behind, take_on, drop_on}
use Rattle.pgn_results.proofs.Endings.{AllEnded, all_ended}

-- the first token of a readable game is no bad one
none_or : (a b : Option GameFault) → option_or a b ≡ None → a ≡ None
none_or None b e = refl
none_or (Some x) b e = cc

none_mapped : (o : Option ℕ) → option_map BadToken o ≡ None → o ≡ None
none_mapped None e = refl
none_mapped (Some x) e = cc

good_by : (v : Bool) (n : ℕ) (xs : List ℕ) → slice_get (cons_option (if v then Some n else None) xs) 0 ≡ None → v ≡ false
good_by true n xs e = cc
good_by false n xs e = refl

good_first : (t : Placed) (ts : List Placed) → (game_of (t ∷ ts)).fault ≡ None → is_bad t.token ≡ false
unfolding game_of fault_of first_bad outside
good_first t ts e = good_by (is_bad t.token) t.offset _ (none_mapped _ (none_or _ _ e))

-- the last of tokens
last_of : (t : Placed) (ts : List Placed) → (gs : List Placed) × (tl : Placed) × (t ∷ ts ≡ gs ++ tl ∷ [])
last_of t [] = ([], t, refl)
last_of t (u ∷ ts) = let l = last_of u ts in (t ∷ l.0, l.1, ap (λ xs. t ∷ xs) l.2)

same_last : (gs hs : List Placed) (t u : Placed) → gs ++ t ∷ [] ≡ hs ++ u ∷ [] → t ≡ u
same_last [] [] t u e = cc
same_last [] (h ∷ []) t u e = cc
same_last [] (h ∷ h' ∷ hs) t u e = cc
same_last (g ∷ []) [] t u e = cc
same_last (g ∷ g' ∷ gs) [] t u e = cc
same_last (g ∷ gs) (h ∷ hs) t u e = same_last gs hs t u (cc e)

end_by : (t : Placed) (ts gs : List Placed) (tl : Placed) → t ∷ ts ≡ gs ++ tl ∷ [] → (span_of (t ∷ ts)).end ≡ tl.end
unfolding span_of
end_by t ts [] tl e =
    let none : ts ≡ [] = cc in
    let same : t ≡ tl = cc in
    ap (fold (λ end (later : Placed). later.end) t.end) none ∙ ap (λ (x : Placed). x.end) same
end_by t ts (g ∷ gs) tl e =
    let is : ts ≡ gs ++ tl ∷ [] = cc e in
    ap (fold (λ end (later : Placed). later.end) t.end) is ∙ fold_push (λ end (later : Placed). later.end) t.end gs tl

-- the same of a game's own tokens
ended_back : (n k depth : ℕ) (ts : List Placed) → Ended depth (map (moved_token n k) ts) → Ended depth ts
unfolding Ended
ended_back n k depth [] h = tt
ended_back n k depth (t ∷ ts) h = (λ e. none_moved ts (h.0 e), ended_back n k (depth_after depth t.token) ts h.1)
  where
    none_moved : (ts : List Placed) → map (moved_token n k) ts ≡ [] → ts ≡ []
    none_moved [] e = refl
    none_moved (t ∷ ts) e = cc

late_by : (n k depth : ℕ) (ts : List Placed) → From (n + 1) (map (moved_token n k) ts) → Late depth ts
unfolding Late
late_by n k depth [] h = tt
late_by n k depth (t ∷ ts) h =
    let low = All-head (λ (t : Placed). n + 1 ≤ t.offset) (moved_token n k t) (map (moved_token n k) ts) h in
    (λ e. omega (arith, low), late_by n k (depth_after depth t.token) ts (All-tail (λ (t : Placed). n + 1 ≤ t.offset) (moved_token n k t) (map (moved_token n k) ts) h))

no_tokens : tokens [] ≡ []
unfolding tokens has_mark tokens_after
no_tokens = refl

late_first : (n k : ℕ) (t : Placed) (ts : List Placed) (us : List Placed) → t ∷ ts ≡ map (moved_token n k) us → is_some (mark_of t.token) ≡ false → From (n + 1) ts → Late 0 us
unfolding Late
late_first n k t ts [] e m h = tt
late_first n k t ts (u ∷ us) e m h =
    let same : t ≡ moved_token n k u = cc in
    let rest : ts ≡ map (moved_token n k) us = cc e in (
      λ d.
          let yes : is_some (mark_of t.token) ≡ true = ap (λ (x : Placed). is_some (mark_of x.token)) same ∙ right_true (0 == 0) (is_some (mark_of u.token)) d in
          let no : true ≡ false = sym yes ∙ m in
          cc,
      late_by n k (depth_after 0 u.token) us (subst (From (n + 1)) rest h),
    )

filled : (n k : ℕ) (t : Placed) (ts : List Placed) (game : List ℕ) → t ∷ ts ≡ map (moved_token n k) (tokens game) → (x : ℕ) × (xs : List ℕ) × (game ≡ x ∷ xs)
filled n k t ts [] e = let no : t ∷ ts ≡ [] = e ∙ ap (map (moved_token n k)) no_tokens in cc
filled n k t ts (x ∷ xs) e = (x, xs, refl)

-- a game with another result begins as it did
begins_by : (v : Bool) (x : ℕ) (xs ys : List ℕ) → (zs : List ℕ) × ((if v then (x ∷ xs) ++ 32 ∷ ys else (x ∷ xs) ++ ys) ≡ x ∷ zs)
begins_by true x xs ys = (xs ++ 32 ∷ ys, refl)
begins_by false x xs ys = (xs ++ ys, refl)

value_begins_by : (v : Bool) (mark : ResultMark) (x : ℕ) (xs ys zs : List ℕ) → (ws : List ℕ) × ((if v then x ∷ ys else x ∷ zs) ≡ x ∷ ws)
value_begins_by true mark x xs ys zs = (ys, refl)
value_begins_by false mark x xs ys zs = (zs, refl)

value_begins : (mark : ResultMark) (x : ℕ) (xs : List ℕ) → (ws : List ℕ) × (with_value mark (x ∷ xs) ≡ x ∷ ws)
unfolding with_value
value_begins mark x xs = value_begins_by (x == 34) mark x xs _ _

tag_begins : (again : Bool) (mark : ResultMark) (start x : ℕ) (xs : List ℕ) → (ws : List ℕ) × (with_tag_if again mark start (x ∷ xs) ≡ x ∷ ws)
tag_begins false mark start x xs = (xs, refl)
tag_begins true mark zero x xs = value_begins mark x xs
tag_begins true mark (suc start) x xs = (take start xs ++ with_value mark (drop start xs), refl)

token_begins : (mark : ResultMark) (start end x : ℕ) (xs : List ℕ) → 0 < start → (ws : List ℕ) × (with_token mark start end (x ∷ xs) ≡ x ∷ ws)
token_begins mark zero end x xs p = absurd (omega arith)
token_begins mark (suc start) end x xs p =
    let back = apart (mark_text mark) (drop end (x ∷ xs)) in
    begins_by (leans (take (suc start) (x ∷ xs)) && begins_word back) x (take start xs) back

mark_begins_by : (ends tagged : Bool) (depth : ℕ) (mark : ResultMark) (t : Placed) (ts : List Placed) (x : ℕ) (xs : List ℕ) → is_result_at depth t.token ≡ ends → (is_result_at depth t.token ≡ true → 0 < t.offset)
    → ((ws : List ℕ) × (with_mark (tagged || is_result_tag t.token) (depth_after depth t.token) mark ts (x ∷ xs) ≡ x ∷ ws)) → (ws : List ℕ) × (with_mark tagged depth mark (t ∷ ts) (x ∷ xs) ≡ x ∷ ws)
unfolding with_mark
mark_begins_by true tagged depth mark t ts x xs d late later = rw d (token_begins mark t.offset t.end x xs (late d))
mark_begins_by false tagged depth mark t ts x xs d late (ws, e) =
    let again = is_result_tag t.token && not tagged in
    let b = tag_begins again mark t.offset x ws in
    rw d (b.0, ap (with_tag_if again mark t.offset) e ∙ b.1)

mark_begins : (tagged : Bool) (depth : ℕ) (mark : ResultMark) (ts : List Placed) (x : ℕ) (xs : List ℕ) → Late depth ts → (ws : List ℕ) × (with_mark tagged depth mark ts (x ∷ xs) ≡ x ∷ ws)
unfolding with_mark Late
mark_begins tagged depth mark [] x xs h = (xs, refl)
mark_begins tagged depth mark (t ∷ ts) x xs h =
    mark_begins_by (is_result_at depth t.token) tagged depth mark t ts x xs refl h.0 (mark_begins (tagged || is_result_tag t.token) (depth_after depth t.token) mark ts x xs h.1)

-- what is known of a game in its text
pub record One (bytes : List ℕ) (t : Placed) (ts vs : List Placed) : Type 0 where
  pub front : List ℕ
  pub game : List ℕ
  pub rest : List ℕ
  pub x : ℕ
  pub xs : List ℕ
  pub bytes_are : bytes ≡ front ++ (game ++ rest)
  pub start_is : (span_of (t ∷ ts)).start ≡ length front
  pub end_is : (span_of (t ∷ ts)).end ≡ length front + length game
  pub behind_are : From (span_of (t ∷ ts)).end vs
  pub game_is : game ≡ x ∷ xs
  pub late : Late 0 (tokens game)
  pub changes : (mark : ResultMark) (more : List ℕ) → with_mark false 0 mark (t ∷ ts) (front ++ (game ++ more)) ≡ front ++ (game_with_mark mark game more ++ more)

one : (bytes : List ℕ) (us : List Placed) (t : Placed) (ts vs : List Placed) → tokens bytes ≡ us ++ ((t ∷ ts) ++ vs) → Ended 0 (t ∷ ts) → (game_of (t ∷ ts)).fault ≡ None
    → begins_with_result (t ∷ ts) ≡ false → One bytes t ts vs
unfolding begins_with_result span_of has_result
one bytes us t ts vs e ended fine begun =
    let l = last_of t ts in
    let o : Own bytes t ts vs l.1.end = own bytes us t ts vs l.0 l.1 e l.2 (good_first t ts fine) in
    let n = length o.front in
    let f = filled n o.lines t ts o.game o.tokens_are in
    let late = late_first n o.lines t ts (tokens o.game) o.tokens_are begun o.later_are in
    let ended' = ended_back n o.lines 0 (tokens o.game) (subst (Ended 0) o.tokens_are ended) in
    let ends : (us' : List Placed) (u : Placed) → tokens o.game ≡ us' ++ u ∷ [] → u.end ≡ length o.game =
    (λ us' u g.
    let there : map (moved_token n o.lines) us' ++ moved_token n o.lines u ∷ [] ≡ l.0 ++ l.1 ∷ [] =
    sym (map-append (moved_token n o.lines) us' (u ∷ [])) ∙ ap (map (moved_token n o.lines)) (sym g) ∙ sym o.tokens_are ∙ l.2 in
    let same = same_last (map (moved_token n o.lines) us') l.0 (moved_token n o.lines u) l.1 there in
    omega (arith, ap (λ (x : Placed). x.end) same, o.end_is)) in
    record {
      front = o.front;
      game = o.game;
      rest = o.rest;
      x = f.0;
      xs = f.1;
      bytes_are = o.bytes_are;
      start_is = o.start_is;
      end_is = end_by t ts l.0 l.1 l.2 ∙ o.end_is;
      behind_are = subst (λ k. From k vs) (sym (end_by t ts l.0 l.1 l.2)) o.behind_are;
      game_is = f.2;
      late = late;
      changes = λ mark more.
          ap (λ us. with_mark false 0 mark us (o.front ++ (o.game ++ more))) o.tokens_are
          ∙ ap (λ ys. with_mark false 0 mark (map (moved_token n o.lines) (tokens o.game)) (o.front ++ (ys ++ more))) f.2
          ∙ behind false 0 mark o.lines o.front f.0 (f.1 ++ more) (tokens o.game) late
          ∙ ap (λ ys. o.front ++ with_mark false 0 mark (tokens o.game) (ys ++ more)) (sym f.2)
          ∙ ap (λ ys. o.front ++ ys) (spaced false 0 mark o.game more [] (tokens o.game) refl ended' ends)
          ∙ ap (λ ys. o.front ++ ys) (sym (append_assoc (with_mark false 0 mark (tokens o.game) o.game) (space_behind mark (tokens o.game) more) more));
    }

all_back : (P : Placed → Type 0) (xs ys : List Placed) → All P (xs ++ ys) → All P ys
all_back P [] ys h = h
all_back P (x ∷ xs) ys h = all_back P xs ys (All-tail P x (xs ++ ys) h)

begins_two : (p q r : List ℕ) → begins_word q ≡ begins_word r → begins_word (p ++ q) ≡ begins_word (p ++ r)
begins_two [] q r e = e
begins_two (x ∷ p) q r e = refl

-- a corrected text from a place on, and its first byte
abbrev Goes : List (List Placed) → List (Option ResultMark) → List ℕ → ℕ → Type 0
Goes games marks bytes start =
    (corrected_games games marks bytes ≡ take start bytes ++ written start bytes (map placed_game_of games) marks)
    × (begins_word (written start bytes (map placed_game_of games) marks) ≡ begins_word (drop start bytes))

goes_by : (bytes : List ℕ) (t : Placed) (ts : List Placed) (games : List (List Placed)) (mark : ResultMark) (marks : List (Option ResultMark)) (start : ℕ) → One bytes t ts (joined games)
    → start ≤ t.offset → Goes games marks bytes (span_of (t ∷ ts)).end → Goes ((t ∷ ts) ∷ games) (Some mark ∷ marks) bytes start
unfolding corrected_games written span_of has_result
goes_by bytes t ts games mark marks start o low (e, begins) =
    let a = o.front in
    let end = (span_of (t ∷ ts)).end in
    let later = written end bytes (map placed_game_of games) marks in
    let upto : take end bytes ≡ a ++ o.game = ap (λ n. take n bytes) o.end_is ∙ ap (take (length a + length o.game)) o.bytes_are ∙ take_on a (o.game ++ o.rest) (length o.game) ∙ ap (λ xs. a ++ xs) (take_front o.game o.rest) in
    let behind_it : drop end bytes ≡ o.rest = ap (λ n. drop n bytes) o.end_is ∙ ap (drop (length a + length o.game)) o.bytes_are ∙ drop_on a (o.game ++ o.rest) (length o.game) ∙ drop_front o.game o.rest in
    let before_it : take t.offset bytes ≡ a = ap (λ n. take n bytes) o.start_is ∙ ap (take (length a)) o.bytes_are ∙ take_front a (o.game ++ o.rest) in
    let own_bytes : between t.offset end bytes ≡ o.game = ap (drop t.offset) upto ∙ ap (λ n. drop n (a ++ o.game)) o.start_is ∙ drop_front a o.game in
    let few : start ≤ length a = omega (arith, low, o.start_is) in
    let front_is : take start bytes ≡ take start a = ap (take start) o.bytes_are ∙ take-append-le start a (o.game ++ o.rest) few in
    let same_space : game_with_mark mark o.game later ≡ game_with_mark mark o.game o.rest = ap (λ b. with_mark false 0 mark (tokens o.game) o.game ++ (if has_result (tokens o.game) && (is_word mark && b) then 32 ∷ [] else [])) (begins ∙ ap begins_word behind_it) in
    let said : between start t.offset bytes ++ (game_with_mark mark (between t.offset end bytes) (drop end bytes) ++ later) ≡ drop start a ++ (game_with_mark mark o.game o.rest ++ later) =
    ap (λ xs. drop start xs ++ (game_with_mark mark (between t.offset end bytes) (drop end bytes) ++ later)) before_it
    ∙ ap (λ xs. drop start a ++ (game_with_mark mark xs (drop end bytes) ++ later)) own_bytes ∙ ap (λ xs. drop start a ++ (game_with_mark mark o.game xs ++ later)) behind_it in
    let b = mark_begins false 0 mark (tokens o.game) o.x o.xs o.late in
    let first : game_with_mark mark o.game o.rest ++ later ≡ o.x ∷ ((b.0 ++ space_behind mark (tokens o.game) o.rest) ++ later) =
    ap (λ xs. (xs ++ space_behind mark (tokens o.game) o.rest) ++ later) (ap (with_mark false 0 mark (tokens o.game)) o.game_is ∙ b.1) in
    let first' : o.game ++ o.rest ≡ o.x ∷ (o.xs ++ o.rest) = ap (λ xs. xs ++ o.rest) o.game_is in (
      ap (with_mark false 0 mark (t ∷ ts)) (e ∙ ap (λ xs. xs ++ later) upto ∙ append_assoc a o.game later) ∙ o.changes mark later ∙ ap (λ xs. a ++ (xs ++ later)) same_space
          ∙ ap (λ xs. xs ++ (game_with_mark mark o.game o.rest ++ later)) (sym (take-append-drop start a))
          ∙ append_assoc (take start a) (drop start a) (game_with_mark mark o.game o.rest ++ later)
          ∙ ap (λ xs. xs ++ (drop start a ++ (game_with_mark mark o.game o.rest ++ later))) (sym front_is) ∙ ap (λ xs. take start bytes ++ xs) (sym said),
      ap begins_word said ∙ begins_two (drop start a) (game_with_mark mark o.game o.rest ++ later) (o.game ++ o.rest) (ap begins_word first ∙ sym (ap begins_word first'))
          ∙ ap begins_word (sym (ap (drop start) o.bytes_are ∙ drop-append-le start a (o.game ++ o.rest) few)),
    )

goes : (games : List (List Placed)) (marks : List (Option ResultMark)) (us : List Placed) (bytes : List ℕ) (start : ℕ) → tokens bytes ≡ us ++ joined games → AllEnded 0 games
    → All (λ (game : List Placed). 0 < length game) games → OnlyReadable games marks → OnlyBegun games marks → From start (joined games) → Goes games marks bytes start
unfolding corrected_games written AllEnded OnlyReadable OnlyBegun
goes [] marks us bytes start e ended some readable begun late = (sym (take-append-drop start bytes), refl)
goes (game ∷ games) [] us bytes start e ended some readable begun late = (sym (take-append-drop start bytes), refl)
goes (game ∷ games) (None ∷ marks) us bytes start e ended some readable begun late =
    goes games marks (us ++ game) bytes start (e ∙ sym (append_assoc us game (joined games))) ended.1 (All-tail (λ (game : List Placed). 0 < length game) game games some) readable begun
    (all_back (λ (t : Placed). start ≤ t.offset) game (joined games) late)
goes ([] ∷ games) (Some mark ∷ marks) us bytes start e ended some readable begun late = absurd (omega (arith, All-head (λ (game : List Placed). 0 < length game) [] games some))
goes ((t ∷ ts) ∷ games) (Some mark ∷ marks) us bytes start e ended some readable begun late =
    let o : One bytes t ts (joined games) = one bytes us t ts (joined games) e ended.0 readable.0 begun.0 in
    goes_by bytes t ts games mark marks start o (All-head (λ (t : Placed). start ≤ t.offset) t (ts ++ joined games) late)
    (goes games marks (us ++ (t ∷ ts)) bytes (span_of (t ∷ ts)).end (e ∙ sym (append_assoc us (t ∷ ts) (joined games))) ended.1 (All-tail (λ (game : List Placed). 0 < length game) (t ∷ ts) games some)
    readable.1 begun.1 o.behind_are)

all_from : (ts : List Placed) → From 0 ts
all_from ts k d inside = omega arith

pub one_by_one : (bytes : List ℕ) (marks : List (Option ResultMark)) → OnlyReadable (cut Before (tokens bytes)) marks → OnlyBegun (cut Before (tokens bytes)) marks
    → corrected bytes marks ≡ written 0 bytes (placed_games bytes) marks
unfolding placed_games
one_by_one bytes marks readable begun =
    let ts = tokens bytes in
    (goes (cut Before ts) marks [] bytes 0 (sym (none_lost ts)) (all_ended ts) (none_empty ts) readable begun (all_from (joined (cut Before ts)))).0
