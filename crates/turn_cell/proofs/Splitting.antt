-- A new pass keeps the rule.
use Rattle.std.proofs.Common.{◌≡◌, ◌∙◌, sym, ap, subst, refl, ℕ, ◌+◌, ◌<◌, ◌⊎◌, inl, inr, ⊎_elim, true, List, [], ◌∷◌, ◌++◌, length, set, arith, length-set, length-append, zero, suc}
use mathlib.Core.Option as maybe
use lib.ListN.{get_elem?}
use Rattle.atomic_table.proofs.Lists.{at_longer, set_else}
use Rattle.atomic_table.specs.Table.{State}
use mathlib.Core.Logic.{dite}
use native.Mathlib.Decide.{ℕ_discrete}
use Rattle.turn_cell.proofs.Counting.{living_more, life_one}
use Rattle.turn_cell.proofs.Prefix.{none_seen}
use Rattle.turn_cell.proofs.Same.{there, numbers_same, turns_same, departed_same, knows_same, below_same, alive_same, set_there, Like}
use Rattle.turn_cell.specs.Histories.{entries_of, IsOneOf}
use Rattle.turn_cell.specs.declared.object.TakenBack.{TakenBack}
use Rattle.turn_cell.specs.Rule.{TakesTurns, Fits, NoneHasTurn, SomeHasTurn, OwnNumbers, OneTurn, NumbersUpTo, StayAway, SomeHasSeenAll, lives}
use Rattle.turn_cell.specs.Views.{after_split, split_view}
use Rattle.turn_cell.specs.declared.views.View.{View}
use Rattle.turn_cell.specs.declared.views.Held.{Held}

snoc_at : {A : Type 0} (l : List A) (a b : A) (j : ℕ) → get_elem? (l ++ a ∷ []) j ≡ maybe.some b → (get_elem? l j ≡ maybe.some b) ⊎ ((j ≡ length l) × (a ≡ b))
snoc_at [] a b zero e = inr (refl, maybe.some-injective a b e)
snoc_at [] a b (suc j) e = absurd (maybe.some-ne-none b (sym e))
snoc_at (x ∷ l) a b zero e = inl e
snoc_at (x ∷ l) a b (suc j) e = ⊎_elim (λ h. inl h) (λ h. inr (ap (λ n. suc n) h.0, h.1)) (snoc_at l a b j e)

module _ {V C R : Type 0} (step : V → C → R → V → Type 0) (start : V) (s : State (Held V C R) (View V C R)) (k : TakesTurns step start s) (id : ℕ) (v : View V C R) (at : get_elem? s.views id ≡ maybe.some v) (live : lives v ≡ true) (first : v.number ≡ 0) where
  pub is_first : id ≡ 0
  is_first = k.numbers id 0 v k.counts.0 at k.counts.1 live k.counts.5 (first ∙ sym k.counts.2)

  pub is_head : k.counts.0 ≡ v
  is_head = maybe.some-injective k.counts.0 v (sym k.counts.1 ∙ (ap (λ i. get_elem? s.views i) (sym is_first) ∙ at))

  pub splits_known : v.splits ≡ k.made
  splits_known = ap (λ (x : View V C R). x.splits) (sym is_head) ∙ k.counts.3

  pub joins_known : v.joins ≡ k.returned
  joins_known = ap (λ (x : View V C R). x.joins) (sym is_head) ∙ k.counts.4

module _ {V C R : Type 0} (step : V → C → R → V → Type 0) (start : V) (s : State (Held V C R) (View V C R)) (k : TakesTurns step start s) (id : ℕ) (v : View V C R) (at : get_elem? s.views id ≡ maybe.some v) (live : lives v ≡ true) (first : v.number ≡ 0) (few : v.splits < 1000) where
  abbrev left : View V C R
  left = after_split v

  abbrev right : View V C R
  right = split_view v

  abbrev mid : List (View V C R)
  mid = set s.views id left

  abbrev views : List (View V C R)
  views = mid ++ right ∷ []

  at_first : id ≡ 0
  at_first = is_first step start s k id v at live first

  known : v.splits ≡ k.made
  known = splits_known step start s k id v at live first

  like : Like v left
  like = record { origin = refl; number = refl; taken = refl }

  fits_left : Fits start k.history left
  fits_left = let f = k.each id v at in record { origin = f.origin; before = f.before; joined_shorter = f.joined_shorter; own = f.own; own_seen = f.own_seen; taken = f.taken; taken_seen = f.taken_seen; has_turn = f.has_turn }

  none_new : entries_of (v.splits + 1) k.history ≡ []
  none_new = k.above (v.splits + 1) (let g = known in omega (arith, g))

  fits_right : Fits start k.history right
  fits_right = let f = k.each id v at in record {
    origin = f.origin;
    before = f.before;
    joined_shorter = (k.history, refl);
    own = λ l. none_new;
    own_seen = λ l. none_seen (v.splits + 1) v.seen k.history f.before none_new;
    taken = λ x g. absurd g;
    taken_seen = λ x g. absurd g;
    has_turn = λ h. cc;
  }

  where_is : (j : ℕ) (u : View V C R) → get_elem? views j ≡ maybe.some u → (get_elem? mid j ≡ maybe.some u) ⊎ ((j ≡ length mid) × (right ≡ u))
  where_is j u e = snoc_at mid right u j e

  each_mid : (j : ℕ) (u : View V C R) → get_elem? mid j ≡ maybe.some u → Fits start k.history u
  each_mid j u e = ⊎_elim (λ x. subst (Fits start k.history) x.1 fits_left) (λ x. k.each j u x.1) (there s.views id v left at j u e)

  mid_below : NumbersUpTo mid k.made
  mid_below = below_same s.views id v left at k.made like k.up_to

  not_new : (j : ℕ) (u : View V C R) → get_elem? mid j ≡ maybe.some u → u.number ≡ v.splits + 1 → ⊥
  not_new j u e same = let b = (mid_below j u e).0 in let g = known in omega (arith, b, g, same)

  number_right : (u : View V C R) → right ≡ u → u.number ≡ v.splits + 1
  number_right u e = ap (λ (x : View V C R). x.number) (sym e)

  no_turn : (u : View V C R) → right ≡ u → u.has_turn ≡ true → ⊥
  no_turn u e has = let none : right.has_turn ≡ true = ap (λ (x : View V C R). x.has_turn) e ∙ has in cc

  numbers : OwnNumbers views
  numbers i j a b e f la lb same = ⊎_elim
      (λ x. ⊎_elim (λ y. numbers_same s.views id v left at like k.numbers i j a b x y la lb same) (λ y. absurd (not_new i a x (same ∙ number_right b y.1))) (where_is j b f))
      (λ x. ⊎_elim (λ y. absurd (not_new j b y (sym same ∙ number_right a x.1))) (λ y. x.0 ∙ sym y.0) (where_is j b f))
      (where_is i a e)

  none_gone : (x : TakenBack C R) (u : View V C R) → right ≡ u → IsOneOf u.taken x → ⊥
  none_gone x u e has = subst (λ (z : View V C R). IsOneOf z.taken x) (sym e) has

  away : StayAway views
  away i j n a b e f has lb same = ⊎_elim
      (λ x. ⊎_elim
      (λ y. departed_same s.views id v left at like k.away i j n a b x y has lb same)
      (λ y. let m = (mid_below i a x).1 n has in let g = known in let r = number_right b y.1 in omega (arith, m, g, r, same))
      (where_is j b f))
      (λ x. none_gone n a x.1 has)
      (where_is i a e)

  turns : OneTurn views
  turns i j a b e f ha hb = ⊎_elim
      (λ x. ⊎_elim (λ y. turns_same s.views id v left at refl k.turns i j a b x y ha hb) (λ y. absurd (no_turn b y.1 hb)) (where_is j b f))
      (λ x. absurd (no_turn a x.1 ha))
      (where_is i a e)

  none_turns : NoneHasTurn s.views → NoneHasTurn views
  none_turns h j u e turn = ⊎_elim
      (λ x. ⊎_elim (λ y. h id v at (ap (λ (z : View V C R). z.has_turn) y.1 ∙ turn)) (λ y. h j u y.1 turn) (there s.views id v left at j u x))
      (λ x. no_turn u x.1 turn)
      (where_is j u e)

  some_turns : SomeHasTurn s.views → SomeHasTurn views
  some_turns h = dite (ℕ_discrete id h.0)
      (λ e. let same : h.1 ≡ v = maybe.some-injective h.1 v (sym h.2 ∙ (ap (λ i. get_elem? s.views i) (sym e) ∙ at)) in
      (id, left, at_longer mid (right ∷ []) id left (set_there s.views id v left at), ap (λ (x : View V C R). x.has_turn) (sym same) ∙ h.3, live))
      (λ e. (h.0, h.1, at_longer mid (right ∷ []) h.0 h.1 (set_else s.views id h.0 left (λ z. e (sym z)) ∙ h.2), h.3, h.4))

  seen_all : SomeHasSeenAll k.history views
  seen_all = let h = knows_same s.views id v left at k.history like (λ e. e) k.seen_all in
      (h.0, h.1, at_longer mid (right ∷ []) h.0 h.1 h.2, h.3, h.4)

  pub split_kept : TakesTurns step start (record { words = s.words; homes = s.homes; views = set s.views id (after_split v) ++ split_view v ∷ [] })
  split_kept = record {
    history = k.history;
    word = k.word;
    made = k.made + 1;
    returned = k.returned;
    words = k.words;
    places = length-append mid (right ∷ []) ∙ ap (λ n. n + 1) (length-set s.views id left ∙ k.places);
    few = let g = known in omega (arith, few, g);
    living = let a = alive_same s.views id v left at k.made k.returned like k.living in let m = living_more mid right in let l = life_one right live in omega (arith, a, m, l);
    counts = (left, ap (λ i. get_elem? views i) (sym at_first) ∙ at_longer mid (right ∷ []) id left (set_there s.views id v left at), first, ap (λ n. n + 1) known, joins_known step start s k id v at live first, live);
    up_to = λ j u e. ⊎_elim
        (λ x. let b = mid_below j u x in (let c = b.0 in omega (arith, c), λ n g. let d = b.1 n g in omega (arith, d)))
        (λ x. (let n = number_right u x.1 in let g = known in omega (arith, n, g), λ n g. absurd (none_gone n u x.1 g)))
        (where_is j u e);
    above = λ n lt. k.above n (omega (arith, lt));
    each = λ j u e. ⊎_elim (λ x. each_mid j u x) (λ x. subst (Fits start k.history) x.1 fits_right) (where_is j u e);
    numbers = numbers;
    away = away;
    turns = turns;
    seen_all = seen_all;
    slot = ⊎_elim (λ h. inl (h.0, h.1, h.2, h.3, h.4, none_turns h.5, h.6)) (λ h. inr (h.0, some_turns h.1, h.2)) k.slot;
  }
