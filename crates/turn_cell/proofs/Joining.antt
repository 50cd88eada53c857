-- A pass that is taken returned keeps the rule.
use Rattle.std.proofs.Common.{◌≡◌, ◌≢◌, ◌∙◌, sym, ap, subst, refl, ℕ, ◌+◌, ◌≤◌, inl, inr, ⊎_elim, true, false, List, length, set, arith, length-set}
use mathlib.Core.Option as maybe
use lib.ListN.{get_elem?}
use Rattle.atomic_table.proofs.Lists.{set_else}
use Rattle.atomic_table.specs.Table.{State}
use mathlib.Core.Logic.{dite}
use native.Mathlib.Decide.{ℕ_discrete}
use Rattle.turn_cell.proofs.Counting.{living_set, life_one}
use Rattle.turn_cell.proofs.Prefix.{both_in, longer_in, longer_all, longer_all', squeeze}
use Rattle.turn_cell.proofs.Same.{there, set_there}
use Rattle.turn_cell.proofs.Splitting.{is_first, splits_known, joins_known}
use Rattle.turn_cell.specs.Histories.{IsPrefix, entries_of, longer_of, IsOneOf}
use Rattle.turn_cell.specs.declared.object.TakenBack.{TakenBack}
use Rattle.turn_cell.specs.Views.{shorter_of}
use Rattle.turn_cell.specs.Rule.{TakesTurns, Fits, SomeHasTurn, OwnNumbers, OneTurn, SomeHasSeenAll, lives}
use Rattle.turn_cell.specs.Views.{after_join, spent_view}
use Rattle.turn_cell.specs.declared.views.View.{View}
use Rattle.turn_cell.specs.declared.views.Held.{Held}

module _ {V C R : Type 0} (step : V → C → R → V → Type 0) (start : V) (s : State (Held V C R) (View V C R)) (k : TakesTurns step start s) (id : ℕ) (v : View V C R) (at : get_elem? s.views id ≡ maybe.some v) (live : lives v ≡ true) (first : v.number ≡ 0)
    (no_turn : v.has_turn ≡ false) (to : ℕ) (w : View V C R) (apart : to ≡ id → ⊥) (at' : get_elem? (set s.views id (after_join v w)) to ≡ maybe.some w) (live' : lives w ≡ true) (no_turn' : w.has_turn ≡ false) where
  abbrev one_view : View V C R
  one_view = after_join v w

  abbrev dead : View V C R
  dead = spent_view

  abbrev mid : List (View V C R)
  mid = set s.views id one_view

  abbrev views : List (View V C R)
  views = set mid to spent_view

  -- the other pass was there
  there' : get_elem? s.views to ≡ maybe.some w
  there' = ⊎_elim (λ x. absurd (apart x.0)) (λ x. x.1) (there s.views id v one_view at to w at')

  fv : Fits start k.history v
  fv = k.each id v at

  fw : Fits start k.history w
  fw = k.each to w there'

  both : IsPrefix (longer_of v.seen w.seen) k.history × IsPrefix (shorter_of v.seen w.seen) k.history
  both = longer_in v.seen w.seen k.history fv.before fw.before

  parts : IsPrefix v.seen (longer_of v.seen w.seen) × IsPrefix w.seen (longer_of v.seen w.seen)
  parts = both_in v.seen w.seen k.history both.0 both.1

  fits_one : Fits start k.history one_view
  fits_one = record {
    origin = fv.origin;
    before = both.0;
    joined_shorter = both.1;
    own = fv.own;
    own_seen = λ l. squeeze v.number v.seen (longer_of v.seen w.seen) k.history v.mine parts.0 both.0 (fv.own_seen l) (fv.own l);
    taken = λ x g. ⊎_elim (λ e. subst (λ (y : TakenBack C R). entries_of y.number k.history ≡ y.mine) e (fw.own live')) (λ h. fv.taken x h) g;
    taken_seen = λ x g. ⊎_elim
        (λ e. subst (λ (y : TakenBack C R). entries_of y.number (longer_of v.seen w.seen) ≡ y.mine) e (squeeze w.number w.seen (longer_of v.seen w.seen) k.history w.mine parts.1 both.0 (fw.own_seen live') (fw.own live')))
        (λ h. squeeze x.number v.seen (longer_of v.seen w.seen) k.history x.mine parts.0 both.0 (fv.taken_seen x h) (fv.taken x h))
        g;
    has_turn = λ t. let no = no_turn in cc;
  }

  fits_spent : Fits start k.history spent_view
  fits_spent = record {
    origin = λ o e. cc;
    before = (k.history, refl);
    joined_shorter = (k.history, refl);
    own = λ l. cc;
    own_seen = λ l. cc;
    taken = λ x g. absurd g;
    taken_seen = λ x g. absurd g;
    has_turn = λ t. cc;
  }

  -- what stands at a place: the first pass, the spent_view one, or another that was there
  pub data Place (j : ℕ) (u : View V C R) : Type 0 where
    is_one : j ≡ id → one_view ≡ u → Place j u
    is_spent : j ≡ to → spent_view ≡ u → Place j u
    is_other : j ≢ id → j ≢ to → get_elem? s.views j ≡ maybe.some u → Place j u

  place : (j : ℕ) (u : View V C R) → get_elem? views j ≡ maybe.some u → Place j u
  place j u e = ⊎_elim
      (λ x. is_spent x.0 x.1)
      (λ x. ⊎_elim (λ y. is_one y.0 y.1) (λ y. is_other y.0 x.0 y.1) (there s.views id v one_view at j u x.1))
      (there mid to w spent_view at' j u e)

  spent_dead : (u : View V C R) → spent_view ≡ u → lives u ≡ true → ⊥
  spent_dead u e l = let none : lives dead ≡ true = ap (λ (x : View V C R). lives x) e ∙ l in cc

  each : (j : ℕ) (u : View V C R) → Place j u → Fits start k.history u
  each j u (is_one i e) = subst (Fits start k.history) e fits_one
  each j u (is_spent i e) = subst (Fits start k.history) e fits_spent
  each j u (is_other i i' e) = k.each j u e

  -- a pass that lives has its old number at its old place, which isn't the other's
  pub record Lived (j : ℕ) (u : View V C R) : Type 0 where
    pub old : View V C R
    pub was : get_elem? s.views j ≡ maybe.some old
    pub lived : lives old ≡ true
    pub number : old.number ≡ u.number
    pub away : j ≢ to

  lived : (j : ℕ) (u : View V C R) → lives u ≡ true → Place j u → Lived j u
  lived j u l (is_one i e) = record { old = v; was = ap (λ x. get_elem? s.views x) i ∙ at; lived = live; number = ap (λ (x : View V C R). x.number) e; away = λ h. apart (sym h ∙ i) }
  lived j u l (is_spent i e) = absurd (spent_dead u e l)
  lived j u l (is_other i i' e) = record { old = u; was = e; lived = l; number = refl; away = i' }

  numbers : OwnNumbers views
  numbers i j a b e f la lb same =
      let x = lived i a la (place i a e) in let y = lived j b lb (place j b f) in
      k.numbers i j x.old y.old x.was y.was x.lived y.lived (x.number ∙ (same ∙ sym y.number))

  departs : (i j : ℕ) (x : TakenBack C R) (a b : View V C R) → Place i a → Lived j b → IsOneOf a.taken x → b.number ≢ x.number
  departs i j x a b (is_one h e) y has same = ⊎_elim
      (λ is. y.away (k.numbers j to y.old w y.was there' y.lived live' (y.number ∙ (same ∙ ap (λ (z : TakenBack C R). z.number) (sym is)))))
      (λ before. k.away id j x v y.old at y.was before y.lived (y.number ∙ same))
      (subst (λ (z : View V C R). IsOneOf z.taken x) (sym e) has)
  departs i j x a b (is_spent h e) y has same = subst (λ (z : View V C R). IsOneOf z.taken x) (sym e) has
  departs i j x a b (is_other h h' e) y has same = k.away i j x a y.old e y.was has y.lived (y.number ∙ same)

  belows : (j : ℕ) (u : View V C R) → Place j u → (u.number ≤ k.made) × ((x : TakenBack C R) → IsOneOf u.taken x → x.number ≤ k.made)
  belows j u (is_one i e) = subst (λ (z : View V C R). (z.number ≤ k.made) × ((x : TakenBack C R) → IsOneOf z.taken x → x.number ≤ k.made)) e
      ((k.up_to id v at).0, λ x g. ⊎_elim (λ is. subst (λ (y : TakenBack C R). y.number ≤ k.made) is (k.up_to to w there').0) (λ before. (k.up_to id v at).1 x before) g)
  belows j u (is_spent i e) = subst (λ (z : View V C R). (z.number ≤ k.made) × ((x : TakenBack C R) → IsOneOf z.taken x → x.number ≤ k.made)) e (omega arith, λ x g. absurd g)
  belows j u (is_other i i' e) = k.up_to j u e

  was_turn : (j : ℕ) (u : View V C R) → Place j u → u.has_turn ≡ true → get_elem? s.views j ≡ maybe.some u
  was_turn j u (is_one h e) has = let none : v.has_turn ≡ true = ap (λ (x : View V C R). x.has_turn) e ∙ has in let no = no_turn in cc
  was_turn j u (is_spent h e) has = let none : dead.has_turn ≡ true = ap (λ (x : View V C R). x.has_turn) e ∙ has in cc
  was_turn j u (is_other h h' e) has = e

  turns : OneTurn views
  turns i j a b e f ha hb = k.turns i j a b (was_turn i a (place i a e) ha) (was_turn j b (place j b f) hb) ha hb

  at_one : get_elem? views id ≡ maybe.some one_view
  at_one = set_else mid to id spent_view (λ e. apart (sym e)) ∙ set_there s.views id v one_view at

  elsewhere : (j : ℕ) (u : View V C R) → j ≢ id → j ≢ to → get_elem? s.views j ≡ maybe.some u → get_elem? views j ≡ maybe.some u
  elsewhere j u h h' e = set_else mid to j spent_view h' ∙ (set_else s.views id j one_view h ∙ e)

  same_at : (j i : ℕ) (u x : View V C R) → j ≡ i → get_elem? s.views j ≡ maybe.some u → get_elem? s.views i ≡ maybe.some x → u ≡ x
  same_at j i u x h e f = maybe.some-injective u x (sym e ∙ (ap (λ n. get_elem? s.views n) h ∙ f))

  some_turns : SomeHasTurn s.views → SomeHasTurn views
  some_turns h = (
    h.0,
    h.1,
    elsewhere h.0 h.1
        (λ e. let t : v.has_turn ≡ true = ap (λ (x : View V C R). x.has_turn) (sym (same_at h.0 id h.1 v e h.2 at)) ∙ h.3 in let no = no_turn in cc)
        (λ e. let t : w.has_turn ≡ true = ap (λ (x : View V C R). x.has_turn) (sym (same_at h.0 to h.1 w e h.2 there')) ∙ h.3 in let no = no_turn' in cc) h.2,
    h.3,
    h.4,
  )

  seen_all : SomeHasSeenAll k.history views
  seen_all = let h = k.seen_all in dite (ℕ_discrete h.0 id)
      (λ e. let seen : k.history ≡ v.seen = sym h.4 ∙ ap (λ (x : View V C R). x.seen) (same_at h.0 id h.1 v e h.2 at) in
      let long = ap length seen in
      (id, one_view, at_one, live, longer_all v.seen w.seen k.history fv.before fw.before (omega (arith, long))))
      (λ n. dite (ℕ_discrete h.0 to)
      (λ e. let seen : k.history ≡ w.seen = sym h.4 ∙ ap (λ (x : View V C R). x.seen) (same_at h.0 to h.1 w e h.2 there') in
      let long = ap length seen in
      (id, one_view, at_one, live, longer_all' v.seen w.seen k.history fv.before fw.before (omega (arith, long))))
      (λ n'. (h.0, h.1, elsewhere h.0 h.1 n n' h.2, h.3, h.4)))

  pub join_kept : TakesTurns step start (record { words = s.words; homes = s.homes; views = set (set s.views id (after_join v w)) to spent_view })
  join_kept = record {
    history = k.history;
    word = k.word;
    made = k.made;
    returned = k.returned + 1;
    words = k.words;
    places = length-set mid to spent_view ∙ (length-set s.views id one_view ∙ k.places);
    few = k.few;
    living =
        let a = living_set s.views id v one_view at in
        let b = living_set mid to w spent_view at' in
        let c = k.living in
        let x = life_one w live' in
        let y = life_one v live in
        let z = life_one one_view live in
        omega (arith, a, b, c, x, y, z);
    counts = (one_view, ap (λ i. get_elem? views i) (sym (is_first step start s k id v at live first)) ∙ at_one, first, splits_known step start s k id v at live first, ap (λ n. n + 1) (joins_known step start s k id v at live first), live);
    up_to = λ j u e. belows j u (place j u e);
    above = k.above;
    each = λ j u e. each j u (place j u e);
    numbers = numbers;
    away = λ i j x a b e f g lb. departs i j x a b (place i a e) (lived j b lb (place j b f)) g;
    turns = turns;
    seen_all = seen_all;
    slot = ⊎_elim (λ h. inl (h.0, h.1, h.2, h.3, h.4, λ j u e t. h.5 j u (was_turn j u (place j u e) t) t, h.6)) (λ h. inr (h.0, some_turns h.1, h.2)) k.slot;
  }
