-- A change of one view that keeps its number, and whether it lives.
use Rattle.std.proofs.Common.{◌≡◌, ◌≢◌, ◌∙◌, sym, ap, subst, ℕ, ◌⊎◌, ⊎_elim, ◌≤◌, length, length-set, ◌+◌, List, [], ◌∷◌, zero, suc, refl, set, arith, true, cond, is_some}
use mathlib.Core.Option as maybe
use lib.ListN.{get_elem?}
use Rattle.atomic_table.proofs.Lists.{at_set, set_else}
use mathlib.Core.Logic.{dite}
use native.Mathlib.Decide.{ℕ_discrete}
use Rattle.turn_cell.proofs.Counting.{living_set, life}
use Rattle.turn_cell.specs.Rule.{OwnNumbers, OneTurn, FirstCounts, NumbersUpTo, StayAway, SomeHasSeenAll, lives, count_living}
use Rattle.turn_cell.specs.Histories.{IsOneOf}
use Rattle.turn_cell.specs.declared.object.Entry.{Entry}
use Rattle.turn_cell.specs.declared.object.TakenBack.{TakenBack}
use Rattle.turn_cell.specs.declared.views.View.{View}

pub set_there : {A : Type 0} (l : List A) (i : ℕ) (a b : A) → get_elem? l i ≡ maybe.some a → get_elem? (set l i b) i ≡ maybe.some b
set_there [] i a b at = absurd (maybe.some-ne-none a (sym at))
set_there (x ∷ l) zero a b at = refl
set_there (x ∷ l) (suc i) a b at = set_there l i a b at

-- what most steps leave of a view
pub record Like {V C R : Type 0} (v w : View V C R) : Type 0 where
  pub origin : v.origin ≡ w.origin
  pub number : v.number ≡ w.number
  pub taken : v.taken ≡ w.taken

module _ {V C R : Type 0} (views : List (View V C R)) (id : ℕ) (v w : View V C R) (at : get_elem? views id ≡ maybe.some v) where
  pub there : (j : ℕ) (u : View V C R) → get_elem? (set views id w) j ≡ maybe.some u → ((j ≡ id) × (w ≡ u)) ⊎ ((j ≢ id) × (get_elem? views j ≡ maybe.some u))
  there j u e = at_set views id j w u e

  -- what is at a place: its old view lives, with this number and these passes taken back, at the same place
  pub record Was (j : ℕ) (u : View V C R) : Type 0 where
    pub old : View V C R
    pub place : get_elem? views j ≡ maybe.some old
    pub like : Like old u

  pub was : Like v w → (j : ℕ) (u : View V C R) → get_elem? (set views id w) j ≡ maybe.some u → Was j u
  was l j u e = ⊎_elim
      (λ t. record { old = v; place = ap (λ i. get_elem? views i) t.0 ∙ at; like = subst (λ x. Like v x) t.1 l })
      (λ t. record { old = u; place = t.1; like = record { origin = refl; number = refl; taken = refl } })
      (there j u e)

  lived : (x u : View V C R) → Like x u → lives u ≡ true → lives x ≡ true
  lived x u l h = subst (λ o. is_some o ≡ true) (sym l.origin) h

  taken_before : (y : TakenBack C R) (x u : View V C R) → Like x u → IsOneOf u.taken y → IsOneOf x.taken y
  taken_before y x u l h = subst (λ xs. IsOneOf xs y) (sym l.taken) h

  pub numbers_same : Like v w → OwnNumbers views → OwnNumbers (set views id w)
  numbers_same l own i j a b e f la lb same =
      let x = was l i a e in let y = was l j b f in
      own i j x.old y.old x.place y.place (lived x.old a x.like la) (lived y.old b y.like lb) (x.like.number ∙ (same ∙ sym y.like.number))

  pub departed_same : Like v w → StayAway views → StayAway (set views id w)
  departed_same l d i j n a b e f has lb same =
      let x = was l i a e in let y = was l j b f in
      d i j n x.old y.old x.place y.place (taken_before n x.old a x.like has) (lived y.old b y.like lb) (y.like.number ∙ same)

  pub turns_same : v.has_turn ≡ w.has_turn → OneTurn views → OneTurn (set views id w)
  turns_same n one i j a b e f ha hb = ⊎_elim
      (λ x. ⊎_elim (λ y. x.0 ∙ sym y.0) (λ y. x.0 ∙ one id j v b at y.1 (n ∙ (ap (λ (z : View V C R). z.has_turn) x.1 ∙ ha)) hb) (there j b f))
      (λ x. ⊎_elim (λ y. one i id a v x.1 at ha (n ∙ (ap (λ (z : View V C R). z.has_turn) y.1 ∙ hb)) ∙ sym y.0) (λ y. one i j a b x.1 y.1 ha hb) (there j b f))
      (there i a e)

  pub head_same : (made returned : ℕ) → Like v w → v.splits ≡ w.splits → v.joins ≡ w.joins → FirstCounts views made returned → FirstCounts (set views id w) made returned
  head_same made returned l splits joins h = dite (ℕ_discrete id 0)
      (λ e. let same : h.0 ≡ v = maybe.some-injective h.0 v (sym h.1 ∙ (ap (λ i. get_elem? views i) (sym e) ∙ at)) in (
        w,
        ap (λ i. get_elem? (set views id w) i) (sym e) ∙ set_there views id v w at,
        sym l.number ∙ (ap (λ (x : View V C R). x.number) (sym same) ∙ h.2),
        sym splits ∙ (ap (λ (x : View V C R). x.splits) (sym same) ∙ h.3),
        sym joins ∙ (ap (λ (x : View V C R). x.joins) (sym same) ∙ h.4),
        ap (λ o. is_some o) (sym l.origin) ∙ (ap (λ (x : View V C R). lives x) (sym same) ∙ h.5),
      ))
      (λ e. (h.0, set_else views id 0 w (λ z. e (sym z)) ∙ h.1, h.2, h.3, h.4, h.5))

  pub below_same : (made : ℕ) → Like v w → NumbersUpTo views made → NumbersUpTo (set views id w) made
  below_same made l h j u e = let x = was l j u e in let b = h j x.old x.place in
      (subst (λ m. m ≤ made) x.like.number b.0, λ y g. b.1 y (taken_before y x.old u x.like g))

  pub room_same : (made : ℕ) → length views ≡ made + 1 → length (set views id w) ≡ made + 1
  room_same made h = length-set views id w ∙ h

  pub alive_same : (made returned : ℕ) → Like v w → count_living views + returned ≡ made + 1 → count_living (set views id w) + returned ≡ made + 1
  alive_same made returned l h =
      let s = living_set views id v w at in
      let o : life v ≡ life w = ap (λ o. let n : ℕ = cond (is_some o) 1 0 in n) l.origin in
      omega (arith, s, o, h)

  -- who knew all still does, where the changed view does if it did
  pub knows_same : (history : List (Entry C R)) → Like v w → (v.seen ≡ history → w.seen ≡ history) → SomeHasSeenAll history views → SomeHasSeenAll history (set views id w)
  knows_same history l keeps h = dite (ℕ_discrete id h.0)
      (λ e. let same : h.1 ≡ v = maybe.some-injective h.1 v (sym h.2 ∙ (ap (λ i. get_elem? views i) (sym e) ∙ at)) in
      (id, w, set_there views id v w at, ap (λ o. is_some o) (sym l.origin) ∙ (ap (λ (x : View V C R). lives x) (sym same) ∙ h.3), keeps (ap (λ (x : View V C R). x.seen) (sym same) ∙ h.4)))
      (λ e. (h.0, h.1, set_else views id h.0 w (λ z. e (sym z)) ∙ h.2, h.3, h.4))

  -- the view that has all of the history
  pub knows_this : (history : List (Entry C R)) → lives w ≡ true → w.seen ≡ history → SomeHasSeenAll history (set views id w)
  knows_this history l h = (id, w, set_there views id v w at, l, h)
