-- Positions in the order in which they are expanded, as one is added.
use Rattle.std.proofs.Common.{◌≡◌, ℕ, suc, ◌<◌, ◌⊎◌, inl, inr, List, [], ◌∷◌, ◌++◌, length, Some, slice_get, refl, sym, ap, subst, ◌∙◌, arith}
use Rattle.std.specs.List.{Contains}
use Rattle.std.proofs.lemmas.List.Elements.{Contains-push_cases}
use Rattle.cha_list.specs.Distinct.{AreDistinct}
use Rattle.cha_list.proofs.Distinct.{push_apart}
use Rattle.cha_list.proofs.Longer.{stays_at, push_cases}
use Rattle.cha_board.specs.declared.men.Color.{Color}
use Rattle.cha_board.specs.Men.{other_color}
use Rattle.cha_board.specs.Board.{Board}
use Rattle.cha_moves.specs.Ends.{IsMated}
use Rattle.cha_moves.proofs.Contained.{not_in_nothing}
use Rattle.mob_law.specs.Static.{IsStaticallyUnwinnable}
use Rattle.mob_law.specs.Explored.{IsExplored}
use Rattle.node_store.specs.Nodes.{Node}
use Rattle.forced_graph.specs.Outcomes.{ComesUnshown, HasExpanded}
use Rattle.forced_graph.specs.Grown.{IsGrown}
use Rattle.forced_graph.specs.Regions.{AreLed, AreExpanded}

comes_more : (members more : List Board) (before : ℕ) (w : Color) (q : Board) → ComesUnshown members before w q → ComesUnshown (members ++ more) before w q
comes_more members more before w q c = record {
  comes = record {
    number = c.comes.number;
    earlier = c.comes.earlier;
    origin = c.comes.origin;
    is_origin = stays_at members more c.comes.number c.comes.origin c.comes.is_origin;
    by = c.comes.by;
    is_legal = c.comes.is_legal;
    leads = c.comes.leads;
    unshown = c.comes.unshown;
  };
  unshown = c.unshown;
}

-- what may be expanded next: the root first, and then what comes from a position that was expanded
abbrev pub IsNext : Board → Color → List Board → Board → Type 0
IsNext root w members q = ((length members ≡ 0) × (q ≡ root)) ⊎ ((0 < length members) × ComesUnshown members (length members) w q)

pub grown_more : (root : Board) (w : Color) (members : List Board) (q : Board) → IsGrown root w members → IsNext root w members q → (Contains members q → ⊥) → (IsMated q (other_color w) → ⊥) → IsGrown root w (members ++ q ∷ [])
grown_more root w members q was next new running = record {
  distinct = push_apart members q was.distinct new;
  first = λ r at. elim (push_cases members q 0 r at) [
    | inl before ↦ was.first r before
    | inr last ↦ elim next [
      | inl root ↦ sym last.1 ∙ root.1
      | inr later ↦ (let some = later.0 in let none = last.0 in absurd (omega arith))
    ]
  ];
  later = λ i r at. elim (push_cases members q (suc i) r at) [
    | inl before ↦ comes_more members (q ∷ []) (suc i) w r (was.later i r before)
    | inr last ↦ elim next [
      | inl root ↦ (let none = root.0 in let some = last.0 in absurd (omega arith))
      | inr later ↦ (
          let C : ℕ → Type 0 = λ k. ComesUnshown members k w q in
          let D : Board → Type 0 = λ b. ComesUnshown (members ++ q ∷ []) (suc i) w b in
          subst D last.1 (comes_more members (q ∷ []) (suc i) w q (subst C (sym last.0) later.1)))
    ]
  ];
  running = λ r there. elim (Contains-push_cases members q r there) [
    | inl before ↦ was.running r before
    | inr is ↦ (let M : Board → Type 0 = λ b. IsMated b (other_color w) → ⊥ in subst M is running)
  ];
}

pub grown_none : (root : Board) (w : Color) → IsGrown root w []
unfolding AreDistinct
grown_none root w = record {
  distinct = tt;
  first = λ q at. cc;
  later = λ i q at. cc;
  running = λ q there. absurd (not_in_nothing q there);
}

first_is : (root : Board) (members : List Board) → 0 < length members → ((q : Board) → slice_get members 0 ≡ Some q → q ≡ root) → slice_get members 0 ≡ Some root
first_is root [] some first = absurd (omega (arith, some))
first_is root (x ∷ xs) some first = ap Some (first x refl)

-- what was expanded, and why it was
pub explored_of : (root : Board) (w : Color) (count budget : ℕ) (nodes : List Node) (members : List Board) → IsGrown root w members → AreExpanded nodes w members → length members ≡ count → count ≡ budget → 0 < budget → (IsStaticallyUnwinnable root w → ⊥) → HasExpanded root w budget
unfolding AreExpanded AreLed
explored_of root w count budget nodes members grown expanded size all some unshown =
    let e : IsExplored root w budget = record {
      members = members;
      size = size ∙ all;
      distinct = grown.distinct;
      first = first_is root members (omega arith) grown.first;
      later = λ i q at. (grown.later i q at).comes;
      mateless = record {
        none = grown.running;
        next = λ q m there fits mated. (expanded q there m fits).running mated;
      };
      unshown = unshown;
    } in
    (e, grown.later)

-- and so of the position and the side that were asked for
pub explored_asked : (root q : Board) (v w : Color) (count budget : ℕ) (nodes : List Node) (members : List Board) → IsGrown root v members → AreExpanded nodes v members → length members ≡ count → root ≡ q → v ≡ w → count ≡ budget → 0 < budget → (IsStaticallyUnwinnable q w → ⊥) → HasExpanded q w budget
explored_asked root q v w count budget nodes members grown expanded size is same all some unshown =
    subst (λ (c : Color). HasExpanded q c budget) same
    (subst (λ (b : Board). HasExpanded b v budget) is
    (explored_of root v count budget nodes members grown expanded size all some
    (subst (λ (b : Board). IsStaticallyUnwinnable b v → ⊥) (sym is) (subst (λ (c : Color). IsStaticallyUnwinnable q c → ⊥) (sym same) unshown))))
