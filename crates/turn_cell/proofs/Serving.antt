-- Serving keeps the rule.
use Rattle.std.proofs.Common.{◌≡◌, ◌≢◌, ◌∙◌, sym, ap, subst, refl, ℕ, inl, ⊎_elim, true, cond, List, [], ◌∷◌, ◌++◌, set, Some, arith, append-nil, append_assoc, eq-eqb, ne_eqb, nat_eq}
use Rattle.std.proofs.lemmas.List.Elements.{filter-append}
use mathlib.Core.Option as maybe
use lib.ListN.{get_elem?}
use Rattle.atomic_table.specs.Table.{State, Me, Step, Act, Valid, carried_after, stepped, gives}
use Rattle.turn_cell.proofs.Same.{there, numbers_same, head_same, below_same, room_same, departed_same, alive_same, knows_this, Like}
use Rattle.turn_cell.specs.Histories.{IsLegalHistory, IsPrefix, entries_of, entry}
use Rattle.turn_cell.specs.Rule.{TakesTurns, Fits, NoneHasTurn, lives}
use Rattle.turn_cell.specs.Passes.{Turned, known_in}
use Rattle.turn_cell.specs.RuleSteps.{Serves}
use Rattle.turn_cell.specs.Views.{with_turn, after_call}
use Rattle.turn_cell.specs.declared.views.View.{View}
use Rattle.turn_cell.specs.declared.object.Entry.{Entry}
use Rattle.turn_cell.specs.declared.views.Held.{Held}
use Rattle.std.specs.declared.snapshot.Snapshot.{Snapshot}

module _ {C R : Type 0} (n : ℕ) (e : Entry C R) (history : List (Entry C R)) where
  pub own_more : e.number ≡ n → entries_of n (history ++ e ∷ []) ≡ entries_of n history ++ e ∷ []
  own_more is = filter-append (λ x. nat_eq x.number n) history (e ∷ []) ∙ ap (λ b. entries_of n history ++ cond b (e ∷ []) []) (eq-eqb e.number n is)

  pub other_same : e.number ≢ n → entries_of n (history ++ e ∷ []) ≡ entries_of n history
  other_same is = filter-append (λ x. nat_eq x.number n) history (e ∷ []) ∙ (ap (λ b. entries_of n history ++ cond b (e ∷ []) []) (ne_eqb e.number n is) ∙ append-nil (entries_of n history))

module _ {V C R : Type 0} (step : V → C → R → V → Type 0) (start : V) (s : State (Held V C R) (View V C R)) (k : TakesTurns step start s) (id : ℕ) (v : View V C R) (at : get_elem? s.views id ≡ maybe.some v) (turns : v.has_turn ≡ true) (live : lives v ≡ true)
    (held : Held V C R) (call : C) (reply : R) (u : V) (value : held.value ≡ Some u) (legal : IsLegalHistory step start (v.seen ++ entry v.number call reply ∷ []) u) where
  abbrev e : Entry C R
  e = entry v.number call reply

  abbrev w : View V C R
  w = after_call v call reply

  abbrev history : List (Entry C R)
  history = k.history ++ e ∷ []

  all_seen : v.seen ≡ k.history
  all_seen = (k.each id v at).has_turn turns

  one_turns : (j : ℕ) (x : View V C R) → get_elem? s.views j ≡ maybe.some x → x.has_turn ≡ true → j ≡ id
  one_turns j x f t = k.turns j id x v f at t turns

  fits : Fits start history w
  fits = let f = k.each id v at in record {
    origin = f.origin;
    before = ([], ap (λ xs. xs ++ e ∷ []) (sym all_seen) ∙ sym (append-nil (v.seen ++ e ∷ [])));
    joined_shorter = (f.joined_shorter.0 ++ e ∷ [], ap (λ xs. xs ++ e ∷ []) f.joined_shorter.1 ∙ append_assoc v.joined_shorter f.joined_shorter.0 (e ∷ []));
    own = λ l. own_more v.number e k.history refl ∙ ap (λ xs. xs ++ e ∷ []) (f.own l);
    own_seen = λ l. own_more v.number e v.seen refl ∙ ap (λ xs. xs ++ e ∷ []) (f.own_seen l);
    taken = λ x g. other_same x.number e k.history (k.away id id x v v at at g live) ∙ f.taken x g;
    taken_seen = λ x g. other_same x.number e v.seen (k.away id id x v v at at g live) ∙ f.taken_seen x g;
    has_turn = λ h. cc;
  }

  others : (j : ℕ) (x : View V C R) → j ≢ id → get_elem? s.views j ≡ maybe.some x → Fits start history x
  others j x apart f = let old = k.each j x f in record {
    origin = old.origin;
    before = (old.before.0 ++ e ∷ [], ap (λ xs. xs ++ e ∷ []) old.before.1 ∙ append_assoc x.seen old.before.0 (e ∷ []));
    joined_shorter = (old.joined_shorter.0 ++ e ∷ [], ap (λ xs. xs ++ e ∷ []) old.joined_shorter.1 ∙ append_assoc x.joined_shorter old.joined_shorter.0 (e ∷ []));
    own = λ l. other_same x.number e k.history (λ same. apart (k.numbers j id x v f at l live (sym same))) ∙ old.own l;
    own_seen = old.own_seen;
    taken = λ y g. other_same y.number e k.history (k.away j id y x v f at g live) ∙ old.taken y g;
    taken_seen = old.taken_seen;
    has_turn = λ t. absurd (apart (one_turns j x f t));
  }

  none_turns : NoneHasTurn (set s.views id w)
  none_turns j x f t = ⊎_elim
      (λ y. let same : w.has_turn ≡ x.has_turn = ap (λ (z : View V C R). z.has_turn) y.1 in cc)
      (λ y. y.0 (one_turns j x y.1 t))
      (there s.views id v w at j x f)

  was_out : s.homes ≡ maybe.none ∷ []
  was_out = ⊎_elim (λ h. absurd (h.5 id v at turns)) (λ h. h.0) k.slot

  like : Like v w
  like = record { origin = refl; number = refl; taken = refl }

  pub served_kept : TakesTurns step start (stepped s 0 0 id ((0, held) ∷ []) w gives)
  served_kept = record {
    history = history;
    word = 0;
    words = ap (λ ws. set ws 0 0) k.words;
    made = k.made;
    returned = k.returned;
    places = room_same s.views id v w at k.made k.places;
    few = k.few;
    living = alive_same s.views id v w at k.made k.returned like k.living;
    counts = head_same s.views id v w at k.made k.returned like refl refl k.counts;
    up_to = below_same s.views id v w at k.made like k.up_to;
    above = λ n lt. other_same n e k.history (λ same. let b = (k.up_to id v at).0 in omega (arith, lt, b, same)) ∙ k.above n lt;
    away = departed_same s.views id v w at like k.away;
    seen_all = knows_this s.views id v w at history live (ap (λ xs. xs ++ e ∷ []) all_seen);
    each = λ j x f. ⊎_elim (λ y. subst (Fits start history) y.1 fits) (λ y. others j x y.0 y.1) (there s.views id v w at j x f);
    numbers = numbers_same s.views id v w at like k.numbers;
    turns = λ i j a b f g ha hb. absurd (none_turns i a f ha);
    slot = inl (held, u, ap (λ hs. set hs 0 (maybe.some held)) was_out, value, subst (λ xs. IsLegalHistory step start (xs ++ e ∷ []) u) all_seen legal, none_turns, refl);
  }

-- a history goes on by one call
pub legal_more : {V C R : Type 0} (step : V → C → R → V → Type 0) (o : V) (history : List (Entry C R)) (n : ℕ) (call : C) (reply : R) (v u : V) → IsLegalHistory step o history v → step v call reply u → IsLegalHistory step o (history ++ entry n call reply ∷ []) u
legal_more step o [] n call reply v u l h = (u, subst (λ x. step x call reply u) l h, refl)
legal_more step o (e ∷ history) n call reply v u l h = (l.0, l.1, legal_more step l.0 history n call reply v u l.2 h)

-- the seat that holds the slot may serve
pub serves_goes : {V C R : Type 0} (step : V → C → R → V → Type 0) (start : V) (s : State (Held V C R) (View V C R)) (k : TakesTurns step start s) (id found : ℕ) (st : Step (Held V C R)) (m : Me (Held V C R) (View V C R)) (v : View V C R)
    (call : Snapshot C) (reply : Snapshot R) (u : V) → m ≡ (v, (0, record { value = Some u; said = Some (record { call = call; reply = reply }) }) ∷ []) → get_elem? s.views id ≡ maybe.some m.0 → v.has_turn ≡ true → lives v ≡ true → IsLegalHistory step start (v.seen ++ entry v.number call.value reply.value ∷ []) u
    → (w : View V C R) × (a : Act (Held V C R)) × Valid s.homes m.1 a × TakesTurns step start (stepped s 0 0 id m.1 w a) × Serves st m found (w, carried_after m.1 a)
serves_goes {V} {C} {R} step start s k id found st m v call reply u is at turns live legal =
    let held : Held V C R = record { value = Some u; said = Some (record { call = call; reply = reply }) } in
    let P : Me (Held V C R) (View V C R) → Type 0 = λ x. get_elem? s.views id ≡ maybe.some x.0
    → (w : View V C R) × (a : Act (Held V C R)) × Valid s.homes x.1 a × TakesTurns step start (stepped s 0 0 id x.1 w a) × Serves st x found (w, carried_after x.1 a) in
    let here : P (v, (0, held) ∷ []) = λ at'. (after_call v call.value reply.value, gives, tt, served_kept step start s k id v at' turns live held call.value reply.value u refl legal, refl) in
    let goes : P m = subst P (sym is) here in
    goes at

-- what a whole turn tells
module _ {V C R : Type 0} (step : V → C → R → V → Type 0) (start : V) (v : View V C R) (call : C) (reply : R) (history : List (Entry C R)) (before : IsPrefix v.seen history) (own : entries_of v.number history ≡ v.mine) where
  abbrev last_view : View V C R
  last_view = after_call (with_turn v history) call reply

  whole : (l : (last : V) × IsLegalHistory step start last_view.seen last) → Turned step start (known_in v) call reply (known_in last_view)
  whole l = record {
    before = history;
    last = l.0;
    known_before = before;
    seen = refl;
    mine = refl;
    own = own_more v.number (entry v.number call reply) history refl ∙ ap (λ xs. xs ++ entry v.number call reply ∷ []) own;
    legal = l.1;
    same = (refl, refl, refl);
  }

  pub turn_told : (x u : View V C R) → x ≡ with_turn v history → u ≡ after_call x call reply → (last : V) × IsLegalHistory step start (after_call x call reply).seen last → Turned step start (known_in v) call reply (known_in u)
  turn_told x u is e l = subst (λ z. Turned step start (known_in v) call reply (known_in z)) (sym (e ∙ ap (λ y. after_call y call reply) is)) (whole (subst (λ y. (last : V) × IsLegalHistory step start (after_call y call reply).seen last) is l))
