-- A pass that writes another number than 0 keeps the rule: it takes the slot where it found 0, and nothing else changes where it did not.
use Rattle.std.proofs.Common.{◌≡◌, ◌≢◌, ◌∙◌, sym, ap, subst, refl, ℕ, inl, inr, ⊎_elim, true, [], ◌∷◌, set, get_or, Some, append-nil, eq-eqb, ne_eqb, nat_eq, MatchBool}
use mathlib.Core.Option as maybe
use mathlib.Core.Logic.{dite}
use native.Mathlib.Decide.{ℕ_discrete}
use lib.ListN.{get_elem?}
use Rattle.atomic_table.proofs.Lists.{set_again}
use Rattle.atomic_table.specs.Table.{State, Me, Step, Act, Valid, carried_after, stepped, keeps, takes}
use Rattle.turn_cell.proofs.Same.{there, numbers_same, set_there, head_same, below_same, room_same, departed_same, alive_same, knows_this, Like}
use Rattle.turn_cell.specs.Histories.{IsLegalHistory}
use Rattle.turn_cell.specs.Rule.{TakesTurns, Fits, NoneHasTurn, OneTurn, lives}
use Rattle.turn_cell.specs.RuleSteps.{Takes, HasTurn}
use Rattle.turn_cell.specs.Views.{with_turn}
use Rattle.turn_cell.specs.declared.views.View.{View}
use Rattle.turn_cell.specs.declared.views.Held.{Held}

module _ {V C R : Type 0} (step : V → C → R → V → Type 0) (start : V) (s : State (Held V C R) (View V C R)) (k : TakesTurns step start s) (id : ℕ) (v : View V C R) (at : get_elem? s.views id ≡ maybe.some v) (n : ℕ) (out : n ≢ 0) where
  word_is : get_or s.words 0 0 ≡ k.word
  word_is = ap (λ ws. get_or ws 0 0) k.words

  -- the slot was out, and the word still says so
  pub missed_kept : get_or s.words 0 0 ≢ 0 → TakesTurns step start (stepped s 0 n id [] v keeps)
  missed_kept miss =
      subst (λ vs. TakesTurns step start (record { words = set s.words 0 n; homes = s.homes; views = vs })) (sym (set_again s.views id v at))
      (record {
        history = k.history;
        word = n;
        words = ap (λ ws. set ws 0 n) k.words;
        made = k.made;
        returned = k.returned;
        places = k.places;
        few = k.few;
        living = k.living;
        counts = k.counts;
        up_to = k.up_to;
        above = k.above;
        each = k.each;
        numbers = k.numbers;
        away = k.away;
        turns = k.turns;
        seen_all = k.seen_all;
        slot = ⊎_elim (λ h. absurd (miss (word_is ∙ h.6))) (λ h. inr (h.0, h.1, out)) k.slot;
      })

  module _ (hit : get_or s.words 0 0 ≡ 0) (live : lives v ≡ true) where
    abbrev w : View V C R
    w = with_turn v k.history

    -- the slot is at home, and nobody has the turn
    pub at_home : (held : Held V C R) × (u : V) × (s.homes ≡ maybe.some held ∷ []) × (held.value ≡ Some u) × IsLegalHistory step start k.history u × NoneHasTurn s.views
    at_home = ⊎_elim (λ h. (h.0, h.1, h.2, h.3, h.4, h.5)) (λ h. absurd (h.2 (sym word_is ∙ hit))) k.slot

    fits : Fits start k.history w
    fits = let f = k.each id v at in record {
      origin = f.origin;
      before = ([], sym (append-nil k.history));
      joined_shorter = f.joined_shorter;
      own = f.own;
      own_seen = f.own;
      taken = f.taken;
      taken_seen = f.taken;
      has_turn = λ _. refl;
    }

    like : Like v w
    like = record { origin = refl; number = refl; taken = refl }

    only_this : (j : ℕ) (u : View V C R) → get_elem? (set s.views id w) j ≡ maybe.some u → u.has_turn ≡ true → j ≡ id
    only_this j u e t = ⊎_elim (λ x. x.0) (λ x. absurd (at_home.5 j u x.1 t)) (there s.views id v w at j u e)

    turns : OneTurn (set s.views id w)
    turns i j a b e f ha hb = only_this i a e ha ∙ sym (only_this j b f hb)

    pub turned_kept : TakesTurns step start (stepped s 0 n id [] (with_turn v k.history) (takes 0 at_home.0))
    turned_kept = record {
      history = k.history;
      word = n;
      words = ap (λ ws. set ws 0 n) k.words;
      made = k.made;
      returned = k.returned;
      places = room_same s.views id v w at k.made k.places;
      few = k.few;
      living = alive_same s.views id v w at k.made k.returned like k.living;
      counts = head_same s.views id v w at k.made k.returned like refl refl k.counts;
      up_to = below_same s.views id v w at k.made like k.up_to;
      above = k.above;
      away = departed_same s.views id v w at like k.away;
      seen_all = knows_this s.views id v w at k.history live refl;
      each = λ j u e. ⊎_elim (λ x. subst (Fits start k.history) x.1 fits) (λ x. k.each j u x.1) (there s.views id v w at j u e);
      numbers = numbers_same s.views id v w at like k.numbers;
      turns = turns;
      slot = inr (ap (λ hs. set hs 0 maybe.none) at_home.2, (id, w, set_there s.views id v w at, refl, live), out);
    }

-- the seat may write another number than 0 over what it found
module _ {V C R : Type 0} (step : V → C → R → V → Type 0) (start : V) (s : State (Held V C R) (View V C R)) (k : TakesTurns step start s) (id : ℕ) (st : Step (Held V C R)) (m : Me (Held V C R) (View V C R)) (at : get_elem? s.views id ≡ maybe.some m.0) (live : lives m.0 ≡ true) where
  abbrev pub Goes : ℕ → Type 0
  Goes n = (w : View V C R) × (a : Act (Held V C R)) × Valid s.homes m.1 a × TakesTurns step start (stepped s 0 n id m.1 w a) × Takes step st m (get_or s.words 0 0) (w, carried_after m.1 a)

  pub hit_goes : (n : ℕ) → n ≢ 0 → get_or s.words 0 0 ≡ 0 → Goes n
  hit_goes n out hit =
      let home = at_home step start s k id m.0 at n out hit live in (
        with_turn m.0 k.history,
        takes 0 home.0,
        ap (λ hs. get_elem? hs 0) home.2,
        turned_kept step start s k id m.0 at n out hit live,
        inl (k.history, home.0, home.1, (k.each id m.0 at).before, (k.each id m.0 at).own live, home.3, (λ o e. subst (λ z. IsLegalHistory step z k.history home.1) (sym ((k.each id m.0 at).origin o e)) home.4), refl, hit),
      )

  pub miss_goes : (n : ℕ) → n ≢ 0 → get_or s.words 0 0 ≢ 0 → Goes n
  miss_goes n out miss = (m.0, keeps, tt, missed_kept step start s k id m.0 at n out miss, inr (refl, miss))

  pub goes : (n : ℕ) → n ≢ 0 → Goes n
  goes n out = dite (ℕ_discrete (get_or s.words 0 0) 0) (hit_goes n out) (miss_goes n out)

-- what the caller reads off the answer
module _ {V C R : Type 0} (step : V → C → R → V → Type 0) (st : Step (Held V C R)) (m w : Me (Held V C R) (View V C R)) (found : ℕ) (empty : m.1 ≡ []) where
  pub tells : Takes step st m found w → MatchBool (nat_eq found 0) (HasTurn step m.0 w) (w ≡ m)
  tells l = ⊎_elim
      (λ h. rw (eq-eqb found 0 h.8) (h.0, h.1, h.2, h.3, h.4, h.5, h.6, h.7 ∙ ap (λ xs. (with_turn m.0 h.0, (0, h.1) ∷ xs)) empty))
      (λ h. rw (ne_eqb found 0 h.1) h.0)
      l
