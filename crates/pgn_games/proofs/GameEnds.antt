-- Where games end.
use Rattle.std.proofs.Common.{◌≡◌, ℕ, zero, suc, ◌+◌, ◌<◌, ◌≤◌, ◌==◌, ◌&&◌, Bool, true, false, if◌then◌else◌, List, [], ◌∷◌, ◌++◌, Option, Some, None, is_some, length, take, drop, refl, sym, ap, ◌∙◌, subst, arith, append-nil, append_assoc, length-append}
use Rattle.std.proofs.lemmas.Option.{same_Some}
use Rattle.std.proofs.lemmas.List.Sums.{fold_push}
use Rattle.pgn_lex.specs.declared.kinds.Token.{Token}
use Rattle.pgn_lex.specs.declared.kinds.Placed.{Placed}
use Rattle.pgn_games.specs.declared.token_turns.Place.{Place}
use Rattle.pgn_games.specs.declared.token_turns.Place.TheVariants.{Before, Tags, Moves}
use Rattle.pgn_games.specs.declared.token_turns.Turn.{Turn}
use Rattle.pgn_games.specs.declared.token_turns.Turn.TheVariants.{Stays, Ends, Begins}
use Rattle.pgn_games.specs.Cutting.{mark_of, is_tag, depth_after, open_at, tag_turn, move_turn, turn, place_after, place_behind, onto, put, cut}
use Rattle.pgn_games.specs.Settling.{ends_by, games_ended}
use Rattle.pgn_games.specs.Holding.{shifted, size_with, first_end, IsScanned}
use Rattle.pgn_games.proofs.Cuts.{cut_step, tag_begins, opens}

-- games that are ended are cut off alike, whatever tokens follow
take_nothing : {A : Type 0} (n : ℕ) → take {A = A} n [] ≡ []
take_nothing zero = refl
take_nothing (suc n) = refl

zero_more : (n : ℕ) → 0 + n ≡ n
zero_more n = omega arith

one_plus : (n : ℕ) → 1 + n ≡ suc n
one_plus n = omega arith

take_onto : (t : Placed) (n : ℕ) (games : List (List Placed)) → take (suc n) (onto t games) ≡ onto t (take (suc n) games)
take_onto t n [] = ap (λ gs. (t ∷ []) ∷ gs) (take_nothing n)
take_onto t n (game ∷ games) = refl

same_onto : (t : Placed) (n : ℕ) (games games' : List (List Placed)) → take n games ≡ take n games' → take n (onto t games) ≡ take n (onto t games')
same_onto t zero games games' e = refl
same_onto t (suc n) games games' e = take_onto t n games ∙ ap (onto t) e ∙ sym (take_onto t n games')

same_put : (u : Turn) (t : Placed) (n : ℕ) (games games' : List (List Placed)) → take n games ≡ take n games' → take (ends_by u + n) (put u t games) ≡ take (ends_by u + n) (put u t games')
same_put (Stays place) t n games games' e = rw (zero_more n) (same_onto t n games games' e)
same_put Ends t n games games' e = rw (one_plus n) (ap (λ gs. (t ∷ []) ∷ gs) e)
same_put Begins t n games games' e = rw (one_plus n) (ap (λ gs. [] ∷ gs) (same_onto t n games games' e))

pub cut_alike : (place : Place) (xs ts us : List Placed) → take (games_ended place xs) (cut place (xs ++ ts)) ≡ take (games_ended place xs) (cut place (xs ++ us))
unfolding games_ended
cut_alike place [] ts us = refl
cut_alike place (x ∷ xs) ts us =
    let u = turn place x.token in
    let n = games_ended (place_after u) xs in
    ap (take (ends_by u + n)) (cut_step place x (xs ++ ts)) ∙ same_put u x n (cut (place_after u) (xs ++ ts)) (cut (place_after u) (xs ++ us)) (cut_alike (place_after u) xs ts us)
    ∙ ap (take (ends_by u + n)) (sym (cut_step place x (xs ++ us)))

long_onto : (t : Placed) (n : ℕ) (games : List (List Placed)) → n ≤ length games → n ≤ length (onto t games)
long_onto t n [] e = omega arith
long_onto t n (game ∷ games) e = e

long_put : (u : Turn) (t : Placed) (n : ℕ) (games : List (List Placed)) → n ≤ length games → ends_by u + n ≤ length (put u t games)
long_put (Stays place) t n games e = omega (arith, long_onto t n games e)
long_put Ends t n games e = omega arith
long_put Begins t n games e = omega (arith, long_onto t n games e)

pub ended_are_there : (place : Place) (xs ts : List Placed) → games_ended place xs ≤ length (cut place (xs ++ ts))
unfolding games_ended
ended_are_there place [] ts = omega arith
ended_are_there place (x ∷ xs) ts =
    let u = turn place x.token in
    subst (λ (gs : List (List Placed)). ends_by u + games_ended (place_after u) xs ≤ length gs) (sym (cut_step place x (xs ++ ts)))
    (long_put u x (games_ended (place_after u) xs) (cut (place_after u) (xs ++ ts)) (ended_are_there (place_after u) xs ts))

-- the first game of tokens that end it
abbrev ClosesAt : Place → List Placed → ℕ → List Placed → Type 0
ClosesAt place xs n ts =
    (cut place (xs ++ ts) ≡ take n xs ∷ cut Before (drop n xs ++ ts)) × (games_ended place (xs ++ ts) ≡ 1 + games_ended Before (drop n xs ++ ts)) × (n ≤ length xs)

one_in_front : (k n : ℕ) (o : Option ℕ) → shifted 1 o ≡ Some n → (m : ℕ) × (o ≡ Some m) × (n ≡ suc m)
one_in_front k n None e = cc
one_in_front k n (Some m) e = let f : n ≡ 1 + m = sym (same_Some (1 + m) n e) in (m, refl, omega (arith, f))

ended_step : (place : Place) (t : Placed) (ts : List Placed) → games_ended place (t ∷ ts) ≡ ends_by (turn place t.token) + games_ended (place_after (turn place t.token)) ts
unfolding games_ended
ended_step place t ts = refl

cut_by : (u : Turn) (place : Place) (t : Placed) (ts : List Placed) → turn place t.token ≡ u → cut place (t ∷ ts) ≡ put u t (cut (place_after u) ts)
cut_by u place t ts e = cut_step place t ts ∙ ap (λ v. put v t (cut (place_after v) ts)) e

ended_by : (u : Turn) (place : Place) (t : Placed) (ts : List Placed) → turn place t.token ≡ u → games_ended place (t ∷ ts) ≡ ends_by u + games_ended (place_after u) ts
ended_by u place t ts e = ended_step place t ts ∙ ap (λ v. ends_by v + games_ended (place_after v) ts) e

closes_by : (u : Turn) (place : Place) (x : Placed) (xs : List Placed) (n : ℕ) (ts : List Placed) → turn place x.token ≡ u → size_with u (first_end (place_after u) xs) ≡ Some n
    → ((m : ℕ) → first_end (place_after u) xs ≡ Some m → ClosesAt (place_after u) xs m ts) → ClosesAt place (x ∷ xs) n ts
closes_by (Stays p) place x xs n ts e f later =
    let o = one_in_front 0 n (first_end p xs) f in
    let m = o.0 in
    let h = later m o.1 in
    subst (λ k. ClosesAt place (x ∷ xs) k ts) (sym o.2) (
      cut_by (Stays p) place x (xs ++ ts) e ∙ ap (onto x) h.0,
      ended_by (Stays p) place x (xs ++ ts) e ∙ zero_more (games_ended p (xs ++ ts)) ∙ h.1,
      omega (arith, h.2),
    )
closes_by Ends place x xs n ts e f later =
    let one : n ≡ 1 = sym (same_Some 1 n f) in
    subst (λ k. ClosesAt place (x ∷ xs) k ts) (sym one) (cut_by Ends place x (xs ++ ts) e, ended_by Ends place x (xs ++ ts) e, omega arith)
closes_by Begins place x xs n ts e f later =
    let none : n ≡ 0 = sym (same_Some 0 n f) in
    let tag = tag_begins place x.token e in
    subst (λ k. ClosesAt place (x ∷ xs) k ts) (sym none) (
      cut_by Begins place x (xs ++ ts) e ∙ ap (λ gs. [] ∷ gs) (sym (cut_by (Stays Tags) Before x (xs ++ ts) tag)),
      ended_by Begins place x (xs ++ ts) e ∙ ap (λ k. 1 + k) (sym (ended_by (Stays Tags) Before x (xs ++ ts) tag ∙ zero_more (games_ended Tags (xs ++ ts)))),
      omega arith,
    )

pub closes : (place : Place) (xs : List Placed) (n : ℕ) (ts : List Placed) → first_end place xs ≡ Some n → ClosesAt place xs n ts
unfolding first_end
closes place [] n ts e = cc
closes place (x ∷ xs) n ts e =
    let u = turn place x.token in
    closes_by u place x xs n ts refl e (λ m f. closes (place_after u) xs m ts f)

-- behind the end of a game a reader stands before the next one
place_by : (u : Turn) (place : Place) (x : Placed) (xs : List Placed) (n : ℕ) → turn place x.token ≡ u → size_with u (first_end (place_after u) xs) ≡ Some n
    → ((m : ℕ) → first_end (place_after u) xs ≡ Some m → place_behind (place_after u) xs ≡ place_behind Before (drop m xs)) → place_behind place (x ∷ xs) ≡ place_behind Before (drop n (x ∷ xs))
place_by (Stays p) place x xs n e f later =
    let o = one_in_front 0 n (first_end p xs) f in
    ap (λ v. place_behind (place_after v) xs) e ∙ later o.0 o.1 ∙ ap (λ k. place_behind Before (drop k (x ∷ xs))) (sym o.2)
place_by Ends place x xs n e f later =
    let one : n ≡ 1 = sym (same_Some 1 n f) in
    ap (λ v. place_behind (place_after v) xs) e ∙ ap (λ k. place_behind Before (drop k (x ∷ xs))) (sym one)
place_by Begins place x xs n e f later =
    let none : n ≡ 0 = sym (same_Some 0 n f) in
    ap (λ v. place_behind (place_after v) xs) e ∙ ap (λ v. place_behind (place_after v) xs) (sym (tag_begins place x.token e))
    ∙ ap (λ k. place_behind Before (drop k (x ∷ xs))) (sym none)

pub ended_place : (place : Place) (xs : List Placed) (n : ℕ) → first_end place xs ≡ Some n → place_behind place xs ≡ place_behind Before (drop n xs)
unfolding first_end
ended_place place [] n e = cc
ended_place place (x ∷ xs) n e =
    let u = turn place x.token in
    place_by u place x xs n refl e (λ m f. ended_place (place_after u) xs m f)

-- tokens that end no game
none_in_front : (o : Option ℕ) → shifted 1 o ≡ None → o ≡ None
none_in_front None e = refl
none_in_front (Some m) e = cc

open_by : (u : Turn) (place : Place) (x : Placed) (xs : List Placed) → turn place x.token ≡ u → size_with u (first_end (place_after u) xs) ≡ None
    → (first_end (place_after u) xs ≡ None → games_ended (place_after u) xs ≡ 0) → games_ended place (x ∷ xs) ≡ 0
open_by (Stays p) place x xs e f later = let h = later (none_in_front (first_end p xs) f) in omega (arith, ended_by (Stays p) place x xs e, h)
open_by Ends place x xs e f later = cc
open_by Begins place x xs e f later = cc

pub none_ended : (place : Place) (xs : List Placed) → first_end place xs ≡ None → games_ended place xs ≡ 0
unfolding first_end games_ended
none_ended place [] e = refl
none_ended place (x ∷ xs) e =
    let u = turn place x.token in
    open_by u place x xs refl e (λ f. none_ended (place_after u) xs f)

-- a place within a game
abbrev pub is_within : Place → Bool
is_within Before = false
is_within Tags = true
is_within (Moves depth) = true

tags_within : (place next : Place) → tag_turn place ≡ Stays next → is_within next ≡ true
tags_within Before next e = let f : Tags ≡ next = cc in ap is_within (sym f)
tags_within Tags next e = let f : Tags ≡ next = cc in ap is_within (sym f)
tags_within (Moves depth) next e = cc

moves_within : (b : Bool) (place next : Place) → is_within place ≡ true → (if b then Ends else Stays place) ≡ Stays next → is_within next ≡ true
moves_within true place next w e = cc
moves_within false place next w e = let f : place ≡ next = cc in ap is_within (sym f) ∙ w

within_by : (b : Bool) (place next : Place) (token : Token) → (if b then tag_turn place else move_turn (open_at place) token) ≡ Stays next → is_within next ≡ true
within_by true place next token e = tags_within place next e
within_by false place next token e = moves_within ((open_at place == 0) && is_some (mark_of token)) (Moves (depth_after (open_at place) token)) next refl e

pub stays_within : (place next : Place) (token : Token) → turn place token ≡ Stays next → is_within next ≡ true
unfolding turn
stays_within place next token e = within_by (is_tag token) place next token e

nothing_more : (place : Place) → is_within place ≡ true → cut place [] ≡ [] ∷ []
unfolding cut
nothing_more Before w = cc
nothing_more Tags w = refl
nothing_more (Moves depth) w = refl

whole_by : (u : Turn) (place : Place) (x : Placed) (xs : List Placed) → turn place x.token ≡ u → size_with u (first_end (place_after u) xs) ≡ None
    → (first_end (place_after u) xs ≡ None → is_within (place_after u) ≡ true → cut (place_after u) xs ≡ xs ∷ []) → cut place (x ∷ xs) ≡ (x ∷ xs) ∷ []
whole_by (Stays p) place x xs e f later =
    cut_by (Stays p) place x xs e ∙ ap (onto x) (later (none_in_front (first_end p xs) f) (stays_within place p x.token e))
whole_by Ends place x xs e f later = cc
whole_by Begins place x xs e f later = cc

open_within : (place : Place) (xs : List Placed) → first_end place xs ≡ None → is_within place ≡ true → cut place xs ≡ xs ∷ []
unfolding first_end
open_within place [] e w = nothing_more place w
open_within place (x ∷ xs) e w =
    let u = turn place x.token in
    whole_by u place x xs refl e (λ f v. open_within (place_after u) xs f v)

pub open_game : (xs : List Placed) → first_end Before xs ≡ None → 0 < length xs → cut Before xs ≡ xs ∷ []
unfolding first_end
open_game [] e some = absurd (omega arith)
open_game (x ∷ xs) e some =
    let u = turn Before x.token in
    whole_by u Before x xs refl e (λ f v. open_within (place_after u) xs f v)

-- a game has a token
first_by : (u : Turn) (x : Placed) (o : Option ℕ) (n : ℕ) → turn Before x.token ≡ u → size_with u o ≡ Some n → 0 < n
first_by (Stays p) x o n e f = let h = one_in_front 0 n o f in omega (arith, h.2)
first_by Ends x o n e f = omega (arith, same_Some 1 n f)
first_by Begins x o n e f = let g : Begins ≡ Stays Tags = sym e ∙ tag_begins Before x.token e in cc

pub some_first : (xs : List Placed) (n : ℕ) → first_end Before xs ≡ Some n → 0 < n
unfolding first_end
some_first [] n e = cc
some_first (x ∷ xs) n e = let u = turn Before x.token in first_by u x (first_end (place_after u) xs) n refl e

-- from token to token
shift_twice : (n k : ℕ) (o : Option ℕ) → k ≡ n + 1 → shifted n (shifted 1 o) ≡ shifted k o
shift_twice n k None e = refl
shift_twice n k (Some m) e = ap (λ x. Some x) (let f : n + (1 + m) ≡ k + m = omega arith in f)

end_step : (place : Place) (t : Placed) (ts : List Placed) → first_end place (t ∷ ts) ≡ size_with (turn place t.token) (first_end (place_after (turn place t.token)) ts)
unfolding first_end
end_step place t ts = refl

end_by : (u : Turn) (place : Place) (t : Placed) (ts : List Placed) → turn place t.token ≡ u → first_end place (t ∷ ts) ≡ size_with u (first_end (place_after u) ts)
end_by u place t ts e = end_step place t ts ∙ ap (λ v. size_with v (first_end (place_after v) ts)) e

one_longer : (game : List Placed) (t : Placed) → length (game ++ t ∷ []) ≡ length game + 1
one_longer game t = length-append game (t ∷ [])

pub scanned_more : (game : List Placed) (place next : Place) (t : Placed) → IsScanned game place → turn place t.token ≡ Stays next → IsScanned (game ++ t ∷ []) next
scanned_more game place next t h e = record {
  goes_on = λ ts. ap (first_end Before) (append_assoc game (t ∷ []) ts) ∙ h.goes_on (t ∷ ts) ∙ ap (shifted (length game)) (end_by (Stays next) place t ts e)
      ∙ shift_twice (length game) (length (game ++ t ∷ [])) (first_end next ts) (one_longer game t);
  shallow = omega (arith, h.shallow, opens place next t.token e, one_longer game t);
  stands = fold_push (λ before later. place_after (turn before later.token)) Before game t ∙ ap (λ p. place_after (turn p t.token)) h.stands ∙ ap place_after e;
}

pub ends_scanned : (game : List Placed) (place : Place) (t : Placed) (ts : List Placed) → IsScanned game place → turn place t.token ≡ Ends → first_end Before ((game ++ t ∷ []) ++ ts) ≡ Some (length (game ++ t ∷ []))
ends_scanned game place t ts h e =
    ap (first_end Before) (append_assoc game (t ∷ []) ts) ∙ h.goes_on (t ∷ ts) ∙ ap (shifted (length game)) (end_by Ends place t ts e) ∙ ap (λ n. Some n) (sym (one_longer game t))

pub begins_scanned : (game : List Placed) (place : Place) (t : Placed) (ts : List Placed) → IsScanned game place → turn place t.token ≡ Begins → first_end Before (game ++ t ∷ ts) ≡ Some (length game)
begins_scanned game place t ts h e =
    h.goes_on (t ∷ ts) ∙ ap (shifted (length game)) (end_by Begins place t ts e) ∙ ap (λ n. Some n) (let f : length game + 0 ≡ length game = omega arith in f)

pub none_scanned : (game : List Placed) (place : Place) → IsScanned game place → first_end Before game ≡ None
unfolding first_end
none_scanned game place h = ap (first_end Before) (sym (append-nil game)) ∙ h.goes_on []

pub nothing_scanned : IsScanned [] Before
nothing_scanned = record { goes_on = λ ts. sym (shift_none (first_end Before ts)); shallow = omega arith; stands = refl }
  where
    shift_none : (o : Option ℕ) → shifted 0 o ≡ o
    shift_none None = refl
    shift_none (Some k) = ap (λ n. Some n) (let f : 0 + k ≡ k = omega arith in f)
