-- Meeting keeps the rule, and tells what a join leaves.
use Rattle.std.proofs.Common.{◌≡◌, ◌∙◌, sym, ap, subst, refl, ℕ, ◌≤◌, inl, inr, ⊎_elim, true, false, List, [], ◌∷◌, set, get_or, arith}
use lib.Seq.{set-get_or}
use mathlib.Core.Option as maybe
use lib.ListN.{get_elem?}
use Rattle.atomic_table.proofs.Lists.{set_else}
use Rattle.atomic_table.specs.Table.{State, Me, Step, stepped, keeps}
use mathlib.Core.Logic.{dite}
use native.Mathlib.Decide.{ℕ_discrete}
use Rattle.turn_cell.proofs.Counting.{living_set, living_some}
use Rattle.turn_cell.proofs.Splitting.{splits_known, joins_known}
use Rattle.turn_cell.proofs.Prefix.{both_in}
use Rattle.turn_cell.proofs.Same.{there, turns_same, set_there, room_same}
use Rattle.turn_cell.specs.Histories.{IsOneOf, AreTheirs, taken_back}
use Rattle.turn_cell.specs.declared.object.TakenBack.{TakenBack}
use Rattle.turn_cell.specs.Rule.{TakesTurns, Fits, NoneHasTurn, SomeHasTurn, FirstCounts, SomeHasSeenAll, lives}
use Rattle.turn_cell.specs.Passes.{Joined, known_in}
use Rattle.turn_cell.specs.RuleSteps.{Meets}
use Rattle.turn_cell.specs.Views.{after_meeting, after_join}
use Rattle.turn_cell.specs.declared.views.View.{View}
use Rattle.turn_cell.specs.declared.views.Held.{Held}

module _ {V C R : Type 0} (step : V → C → R → V → Type 0) (start : V) (s : State (Held V C R) (View V C R)) (k : TakesTurns step start s) (id : ℕ) (v : View V C R) (at : get_elem? s.views id ≡ maybe.some v) (no_turn : v.has_turn ≡ false) where
  abbrev w : View V C R
  w = after_meeting v

  -- each view was there
  pub record Was (j : ℕ) (u : View V C R) : Type 0 where
    pub old : View V C R
    pub place : get_elem? s.views j ≡ maybe.some old
    pub lived : lives u ≡ true → lives old ≡ true
    pub number : old.number ≡ u.number
    pub taken : (x : TakenBack C R) → IsOneOf u.taken x → IsOneOf old.taken x

  was_this : Was id w
  was_this = record { old = v; place = at; lived = λ l. l; number = refl; taken = λ x g. g }

  was : (j : ℕ) (u : View V C R) → get_elem? (set s.views id w) j ≡ maybe.some u → Was j u
  was j u e = ⊎_elim
      (λ t. subst (λ x. Was x u) (sym t.0) (subst (λ x. Was id x) t.1 was_this))
      (λ t. record { old = u; place = t.1; lived = λ l. l; number = refl; taken = λ x g. g })
      (there s.views id v w at j u e)

  fits : Fits start k.history w
  fits = let f = k.each id v at in record {
    origin = f.origin;
    before = f.before;
    joined_shorter = (k.history, refl);
    own = f.own;
    own_seen = f.own_seen;
    taken = f.taken;
    taken_seen = f.taken_seen;
    has_turn = f.has_turn;
  }

  none_turns : NoneHasTurn s.views → NoneHasTurn (set s.views id w)
  none_turns h j u e turn = ⊎_elim (λ t. let same : w.has_turn ≡ u.has_turn = ap (λ (x : View V C R). x.has_turn) t.1 in let no = no_turn in cc) (λ t. h j u t.1 turn) (there s.views id v w at j u e)

  same : (x : View V C R) (j : ℕ) → id ≡ j → get_elem? s.views j ≡ maybe.some x → x ≡ v
  same x j e h = maybe.some-injective x v (sym h ∙ (ap (λ i. get_elem? s.views i) (sym e) ∙ at))

  some_turns : SomeHasTurn s.views → SomeHasTurn (set s.views id w)
  some_turns h = (h.0, h.1, set_else s.views id h.0 w (λ e. let t : v.has_turn ≡ true = ap (λ (x : View V C R). x.has_turn) (sym (same h.1 h.0 (sym e) h.2)) ∙ h.3 in let no = no_turn in cc) ∙ h.2, h.3, h.4)

  counts : FirstCounts (set s.views id w) k.made k.returned
  counts = let h = k.counts in dite (ℕ_discrete id 0)
      (λ e. let is = sym (same h.0 0 e h.1) in
      (w, ap (λ i. get_elem? (set s.views id w) i) (sym e) ∙ set_there s.views id v w at, ap (λ (x : View V C R). x.number) is ∙ h.2, ap (λ (x : View V C R). x.splits) is ∙ h.3, ap (λ (x : View V C R). x.joins) is ∙ h.4, ap (λ (x : View V C R). lives x) is ∙ h.5))
      (λ e. (h.0, set_else s.views id 0 w (λ z. e (sym z)) ∙ h.1, h.2, h.3, h.4, h.5))

  seen_all : SomeHasSeenAll k.history (set s.views id w)
  seen_all = let h = k.seen_all in dite (ℕ_discrete id h.0)
      (λ e. let is = sym (same h.1 h.0 e h.2) in (id, w, set_there s.views id v w at, ap (λ (x : View V C R). lives x) is ∙ h.3, ap (λ (x : View V C R). x.seen) is ∙ h.4))
      (λ e. (h.0, h.1, set_else s.views id h.0 w (λ z. e (sym z)) ∙ h.2, h.3, h.4))

  pub met_kept : TakesTurns step start (stepped s 0 (get_or s.words 0 0) id [] (after_meeting v) keeps)
  met_kept = record {
    history = k.history;
    word = k.word;
    made = k.made;
    returned = k.returned;
    words = set-get_or s.words 0 0 ∙ k.words;
    places = room_same s.views id v w at k.made k.places;
    few = k.few;
    living = let a = living_set s.views id v w at in let b = k.living in omega (arith, a, b);
    counts = counts;
    up_to = λ j u e. let x = was j u e in let b = k.up_to j x.old x.place in (subst (λ m. m ≤ k.made) x.number b.0, λ y g. b.1 y (x.taken y g));
    above = k.above;
    each = λ j u e. ⊎_elim (λ t. subst (Fits start k.history) t.1 fits) (λ t. k.each j u t.1) (there s.views id v w at j u e);
    numbers = λ i j a b e f la lb eq. let x = was i a e in let y = was j b f in k.numbers i j x.old y.old x.place y.place (x.lived la) (y.lived lb) (x.number ∙ (eq ∙ sym y.number));
    away = λ i j z a b e f g lb eq. let x = was i a e in let y = was j b f in k.away i j z x.old y.old x.place y.place (x.taken z g) (y.lived lb) (y.number ∙ eq);
    turns = turns_same s.views id v w at refl k.turns;
    seen_all = seen_all;
    slot = ⊎_elim (λ h. inl (h.0, h.1, h.2, h.3, h.4, none_turns h.5, h.6)) (λ h. inr (h.0, some_turns h.1, h.2)) k.slot;
  }

-- no more passes were taken returned than were made
module _ {V C R : Type 0} (step : V → C → R → V → Type 0) (start : V) (s : State (Held V C R) (View V C R)) (k : TakesTurns step start s) (id : ℕ) (v : View V C R) (at : get_elem? s.views id ≡ maybe.some v) (live : lives v ≡ true) (first : v.number ≡ 0) where
  pub fewer_back : v.joins ≤ v.splits
  fewer_back = let a = k.living in let g = splits_known step start s k id v at live first in let r = joins_known step start s k id v at live first in let o = living_some s.views id v at live in omega (arith, a, g, r, o)

-- what the caller reads off the answers
module _ {V C R : Type 0} (v w : View V C R) (st : Step (Held V C R)) (found : ℕ) (u : Me (Held V C R) (View V C R)) where
  from_joined : (rest : List (ℕ × Held V C R)) → Meets st (after_join v w, rest) found u → Joined (known_in v) (known_in w) (known_in u.0)
  from_joined rest l =
      let parts = both_in v.seen w.seen l.0 l.1 l.2 in
      let is : u.0 ≡ after_meeting (after_join v w) = ap (λ x. x.0) l.6 in
      let whole : Joined (known_in v) (known_in w) (known_in (after_meeting (after_join v w))) = record {
        seen = refl;
        mine = refl;
        known_before = parts.0;
        known_other = parts.1;
        others_own = l.3 (taken_back w.number w.mine) (inl refl);
        own = l.4;
        joins = refl;
        same = (refl, refl);
      } in
      subst (λ x. Joined (known_in v) (known_in w) (known_in x)) (sym is) whole

  pub joins_told : (m : Me (Held V C R) (View V C R)) (rest : List (ℕ × Held V C R)) → m ≡ (after_join v w, rest) → Meets st m found u → Joined (known_in v) (known_in w) (known_in u.0)
  joins_told m rest e l = from_joined rest (subst (λ x. Meets st x found u) e l)

  -- the pass that was taken back comes to those before, and the entries of each are its own
  from_taken : (rest : List (ℕ × Held V C R)) → Meets st (after_join v w, rest) found u → (u.0.taken ≡ taken_back w.number w.mine ∷ v.taken) × AreTheirs u.0.taken u.0.seen
  from_taken rest l =
      let is : u.0 ≡ after_meeting (after_join v w) = ap (λ x. x.0) l.6 in
      subst (λ (x : View V C R). (x.taken ≡ taken_back w.number w.mine ∷ v.taken) × AreTheirs x.taken x.seen) (sym is) (refl, l.3)

  pub taken_told : (m : Me (Held V C R) (View V C R)) (rest : List (ℕ × Held V C R)) → m ≡ (after_join v w, rest) → Meets st m found u → (u.0.taken ≡ taken_back w.number w.mine ∷ v.taken) × AreTheirs u.0.taken u.0.seen
  taken_told m rest e l = from_taken rest (subst (λ x. Meets st x found u) e l)
