-- A new cell has the rule.
use Rattle.std.proofs.Common.{◌≡◌, ◌∙◌, sym, ap, subst, refl, ℕ, inl, false, [], ◌∷◌, Some, arith, zero, suc}
use Rattle.std.proofs.lemmas.Option.{same_Some}
use mathlib.Core.Option as maybe
use lib.ListN.{get_elem?}
use Rattle.atomic_table.specs.Table.{opening}
use Rattle.turn_cell.specs.Histories.{IsOneOf}
use Rattle.turn_cell.specs.Rule.{TakesTurns, Fits}
use Rattle.turn_cell.specs.declared.object.TakenBack.{TakenBack}
use Rattle.turn_cell.specs.Views.{first_view}
use Rattle.turn_cell.specs.declared.views.View.{View}
use Rattle.turn_cell.specs.declared.views.Held.{Held}
use Rattle.std.specs.declared.snapshot.Snapshot.{Snapshot}

one_at : {A : Type 0} (a b : A) (i : ℕ) → get_elem? (a ∷ []) i ≡ maybe.some b → (i ≡ 0) × (a ≡ b)
one_at a b zero e = (refl, maybe.some-injective a b e)
one_at a b (suc i) e = absurd (maybe.some-ne-none b (sym e))

module _ {V C R : Type 0} (step : V → C → R → V → Type 0) (key : Snapshot V) (held : Held V C R) (u : V) (has : held.value ≡ Some u) (is : u ≡ key.value) where
  abbrev begun : View V C R
  begun = first_view key

  fits : Fits key.value [] begun
  fits = record {
    origin = λ o e. let same : key ≡ o = same_Some key o e in ap (λ (x : Snapshot V). x.value) (sym same);
    before = ([], refl);
    joined_shorter = ([], refl);
    own = λ l. refl;
    own_seen = λ l. refl;
    taken = λ x g. absurd g;
    taken_seen = λ x g. absurd g;
    has_turn = λ e. cc;
  }

  not_taken : (v : View V C R) → begun ≡ v → (x : TakenBack C R) → IsOneOf v.taken x → ⊥
  not_taken v is x g = subst (λ (w : View V C R). IsOneOf w.taken x) (sym is) g

  pub opened : TakesTurns step key.value (opening (0 ∷ []) (held ∷ []) (first_view key))
  opened = record {
    history = [];
    word = 0;
    made = 0;
    returned = 0;
    words = refl;
    places = refl;
    few = omega arith;
    living = refl;
    counts = (begun, refl, refl, refl, refl, refl);
    up_to = λ i v e. (let same : 0 ≡ v.number = ap (λ (x : View V C R). x.number) (one_at begun v i e).1 in omega (arith, same), λ x g. absurd (not_taken v (one_at begun v i e).1 x g));
    above = λ n lt. refl;
    each = λ i v e. subst (Fits key.value []) (one_at begun v i e).1 fits;
    numbers = λ i j v w e f lv lw same. (one_at begun v i e).0 ∙ sym (one_at begun w j f).0;
    away = λ i j x v w e f g lw same. not_taken v (one_at begun v i e).1 x g;
    turns = λ i j v w e f h k. (one_at begun v i e).0 ∙ sym (one_at begun w j f).0;
    seen_all = (0, begun, refl, refl, refl);
    slot = inl (held, u, refl, has, is, λ i v e turn. let same : false ≡ v.has_turn = ap (λ (x : View V C R). x.has_turn) (one_at begun v i e).1 in cc, refl);
  }
