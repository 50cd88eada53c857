-- Where one pass alone lives, it has seen all, and the slot is at home.
use Rattle.std.proofs.Common.{◌≡◌, ◌∙◌, sym, ap, subst, ℕ, ⊎_elim, true, false, List, [], ◌∷◌, Some, arith}
use mathlib.Core.Option as maybe
use lib.ListN.{get_elem?}
use Rattle.atomic_table.specs.Table.{State, Final, Seen}
use Rattle.turn_cell.proofs.Counting.{only_first}
use Rattle.turn_cell.proofs.Splitting.{is_first, splits_known, joins_known}
use Rattle.turn_cell.specs.Histories.{IsLegalHistory}
use Rattle.turn_cell.specs.Rule.{TakesTurns, lives, count_living}
use Rattle.turn_cell.specs.declared.views.View.{View}
use Rattle.turn_cell.specs.declared.views.Held.{Held}

module _ {V C R : Type 0} (step : V → C → R → V → Type 0) (start : V) (id : ℕ) (v : View V C R) (live : lives v ≡ true) (first : v.number ≡ 0) (no_turn : v.has_turn ≡ false) (alone : v.splits ≡ v.joins) where
  module _ (s : State (Held V C R) (View V C R)) (k : TakesTurns step start s) (at : get_elem? s.views id ≡ maybe.some v) where
    one_lives : count_living s.views ≡ 1
    one_lives = let a = k.living in let g = splits_known step start s k id v at live first in let r = joins_known step start s k id v at live first in let e = alone in omega (arith, a, g, r, e)

    at_head : get_elem? s.views 0 ≡ maybe.some v
    at_head = ap (λ i. get_elem? s.views i) (sym (is_first step start s k id v at live first)) ∙ at

    is_this : (j : ℕ) (u : View V C R) → get_elem? s.views j ≡ maybe.some u → lives u ≡ true → u ≡ v
    is_this j u e l = maybe.some-injective u v (sym e ∙ (ap (λ i. get_elem? s.views i) (only_first s.views v u j at_head live one_lives e l) ∙ at_head))

    all_seen : v.seen ≡ k.history
    all_seen = let h = k.seen_all in ap (λ (x : View V C R). x.seen) (sym (is_this h.0 h.1 h.2 h.3)) ∙ h.4

    at_home : (held : Held V C R) × (u : V) × (s.homes ≡ maybe.some held ∷ []) × (held.value ≡ Some u) × IsLegalHistory step start v.seen u
    at_home = ⊎_elim
        (λ h. (h.0, h.1, h.2, h.3, subst (λ xs. IsLegalHistory step start xs h.1) (sym all_seen) h.4))
        (λ h. let t = h.1 in let turns : v.has_turn ≡ true = ap (λ (x : View V C R). x.has_turn) (sym (is_this t.0 t.1 t.2 t.4)) ∙ t.3 in let no = no_turn in cc)
        k.slot

  -- what the closed table's slot holds
  pub closed : (ws : List ℕ) (xs : List (Held V C R)) → Final (Seen (TakesTurns step start) id v) ws xs → (held : Held V C R) × (u : V) × (get_elem? xs 0 ≡ maybe.some held) × (held.value ≡ Some u) × IsLegalHistory step start v.seen u
  closed ws xs f =
      let h = at_home f.0 f.1.0 f.1.1 in
      (h.0, h.1, f.4 0 h.0 (ap (λ hs. get_elem? hs 0) h.2), h.3, h.4)

-- the same, of the value that was taken out of the slot; the start, the number and the view are those of equal values
module _ {V C R : Type 0} (step : V → C → R → V → Type 0) (start start' : V) (same_start : start' ≡ start) (id id' : ℕ) (same_id : id' ≡ id) (v v' : View V C R) (same_view : v' ≡ v)
    (live : lives v ≡ true) (first : v.number ≡ 0) (no_turn : v.has_turn ≡ false) (alone : v.splits ≡ v.joins) (ws : List ℕ) (xs : List (Held V C R)) where
  pub closed_held : Final (Seen (TakesTurns step start') id' v') ws xs → (held : Held V C R) → get_elem? xs 0 ≡ maybe.some held → (u : V) × (held.value ≡ Some u) × IsLegalHistory step start v.seen u
  closed_held f held at =
      let a = subst (λ o. Final (Seen (TakesTurns step o) id' v') ws xs) same_start f in
      let b = subst (λ n. Final (Seen (TakesTurns step start) n v') ws xs) same_id a in
      let c = subst (λ x. Final (Seen (TakesTurns step start) id x) ws xs) same_view b in
      let h = closed step start id v live first no_turn alone ws xs c in
      let same : h.0 ≡ held = maybe.some-injective h.0 held (sym h.2 ∙ at) in
      (h.1, ap (λ (x : Held V C R). x.value) (sym same) ∙ h.3, h.4)
