-- A store in which a node becomes a leaf.
use Rattle.std.proofs.Common.{◌≡◌, ◌≢◌, ℕ, zero, suc, Bool, true, false, List, [], ◌∷◌, length, Option, None, Some, slice_get, refl, sym, ap, subst, ◌∙◌, arith}
use Rattle.std.proofs.lemmas.Option.{same_Some}
use Rattle.cha_board.specs.Board.{Board}
use Rattle.node_store.specs.declared.spot.Spot.{Spot}
use Rattle.node_store.specs.declared.origin.Origin.{Origin}
use Rattle.node_store.specs.declared.origin.NodeMark.{NodeMark}
use Rattle.node_store.specs.NameLists.{list_at, Has}
use Rattle.node_store.specs.Nodes.{Node, positions, leaves, mark, IsAt}
use Rattle.node_store.specs.Graphs.{HasOrigin, IsStore}
use Rattle.node_store.specs.Places.{node_of, nodes_of, AreStored}
use Rattle.indexmap.specs.IndexMap.{set_value_at}
use Rattle.std.specs.Map.{values_of}
use Rattle.std.specs.Option.{option_map}

pub same_positions : (nodes : List Node) (name : ℕ) → positions (mark nodes name) ≡ positions nodes
unfolding mark
same_positions [] name = refl
same_positions (n ∷ ns) zero = refl
same_positions (n ∷ ns) (suc name) = ap (λ (ps : List Board). n.position ∷ ps) (same_positions ns name)

pub same_length : (nodes : List Node) (name : ℕ) → length (mark nodes name) ≡ length nodes
unfolding mark
same_length [] name = refl
same_length (n ∷ ns) zero = refl
same_length (n ∷ ns) (suc name) = ap suc (same_length ns name)

-- a node as it was before
was_node : (nodes : List Node) (name i : ℕ) (node : Node) → slice_get (mark nodes name) i ≡ Some node → (m : Node) × (slice_get nodes i ≡ Some m) × (m.position ≡ node.position) × (m.origin ≡ node.origin)
unfolding mark
was_node [] name i node at = cc
was_node (n ∷ ns) zero zero node at = (n, refl, ap (λ (m : Node). m.position) (same_Some _ node at), ap (λ (m : Node). m.origin) (same_Some _ node at))
was_node (n ∷ ns) zero (suc i) node at = (node, at, refl, refl)
was_node (n ∷ ns) (suc name) zero node at = (n, refl, ap (λ (m : Node). m.position) (same_Some n node at), ap (λ (m : Node). m.origin) (same_Some n node at))
was_node (n ∷ ns) (suc name) (suc i) node at = was_node ns name i node at

other_leaf : (nodes : List Node) (name i : ℕ) (b : Bool) → i ≢ name → slice_get (leaves nodes) i ≡ Some b → slice_get (leaves (mark nodes name)) i ≡ Some b
unfolding mark
other_leaf [] name i b other at = at
other_leaf (n ∷ ns) zero zero b other at = absurd (other refl)
other_leaf (n ∷ ns) zero (suc i) b other at = at
other_leaf (n ∷ ns) (suc name) zero b other at = at
other_leaf (n ∷ ns) (suc name) (suc i) b other at = other_leaf ns name i b (λ e. other (ap suc e)) at

pub at_marked : (nodes : List Node) (name i : ℕ) (q : Board) → IsAt (mark nodes name) i q → IsAt nodes i q
at_marked nodes name i q at = sym (ap (λ (ps : List Board). slice_get ps i) (same_positions nodes name)) ∙ at

pub at_unmarked : (nodes : List Node) (name i : ℕ) (q : Board) → IsAt nodes i q → IsAt (mark nodes name) i q
at_unmarked nodes name i q at = ap (λ (ps : List Board). slice_get ps i) (same_positions nodes name) ∙ at

origin_marked : (nodes : List Node) (name i : ℕ) (q : Board) (origin : Option Origin) → HasOrigin nodes i q origin → HasOrigin (mark nodes name) i q origin
unfolding HasOrigin
origin_marked nodes name i q None h = h
origin_marked nodes name i q (Some o) h = (h.0, (h.1.0, at_unmarked nodes name o.parent h.1.0 h.1.1, h.1.2))

pub store_mark : (nodes : List Node) (waiting : List (List ℕ)) (name : ℕ) → IsStore nodes waiting → ((b : ℕ) → Has (list_at waiting b) name → ⊥) → IsStore (mark nodes name) waiting
store_mark nodes waiting name was free =
    let len : length (mark nodes name) ≡ length nodes = same_length nodes name in
    let some = was.some in
    let few = was.few in
    record {
      some = omega arith;
      few = omega arith;
      distinct = λ i j q a b. was.distinct i j q (at_marked nodes name i q a) (at_marked nodes name j q b);
      valid = λ i q a. was.valid i q (at_marked nodes name i q a);
      origins = λ i node at.
          let old = was_node nodes name i node at in
          origin_marked nodes name i node.position node.origin
          (subst (HasOrigin nodes i node.position) old.3 (subst (λ (q : Board). HasOrigin nodes i q old.0.origin) old.2 (was.origins i old.0 old.1)));
      size = was.size;
      inner = λ b n h. other_leaf nodes name n false (λ e. free b (subst (Has (list_at waiting b)) e h)) (was.inner b n h);
      apart = was.apart;
      falls = was.falls;
    }

-- the marks of the entries
pub marked_entries : (es : List (Spot × NodeMark)) (i : ℕ) (place : NodeMark) → Some place ≡ slice_get (values_of es) i → nodes_of (set_value_at es i (record { origin = place.origin; leaf = true })) ≡ mark (nodes_of es) i
unfolding mark
marked_entries [] i place at = refl
marked_entries (e ∷ es) zero place at =
    let same : place ≡ e.1 = same_Some place e.1 at in
    ap (λ (o : Option Origin). record { position = e.0.position; origin = o; leaf = true } ∷ nodes_of es) (ap (λ (p : NodeMark). p.origin) same)
marked_entries (e ∷ es) (suc i) place at = ap (λ (ns : List Node). node_of e ∷ ns) (marked_entries es i place at)

kept_length : (es : List (Spot × NodeMark)) (i : ℕ) (place : NodeMark) → length (set_value_at es i place) ≡ length es
kept_length [] i place = refl
kept_length (e ∷ es) zero place = refl
kept_length (e ∷ es) (suc i) place = ap suc (kept_length es i place)

pub stored_mark : (es : List (Spot × NodeMark)) (lists : List (List ℕ)) (slots i : ℕ) (place : NodeMark) → AreStored es lists slots → Some place ≡ slice_get (values_of es) i → ((b : ℕ) → Has (list_at lists b) i → ⊥)
    → AreStored (set_value_at es i (record { origin = place.origin; leaf = true })) lists slots
stored_mark es lists slots i place was at free = record {
  store = subst (λ (ns : List Node). IsStore ns lists) (sym (marked_entries es i place at)) (store_mark (nodes_of es) lists i was.store free);
  slots = was.slots ∙ sym (kept_length es i (record { origin = place.origin; leaf = true }));
}

-- the node of an entry
pub node_entry : (es : List (Spot × NodeMark)) (i : ℕ) (spot : Spot) (place : NodeMark) → slice_get es i ≡ Some (spot, place) → slice_get (nodes_of es) i ≡ Some (node_of (spot, place))
node_entry [] i spot place at = cc
node_entry (e ∷ es) zero spot place at = ap (λ (o : Option (Spot × NodeMark)). option_map node_of o) at
node_entry (e ∷ es) (suc i) spot place at = node_entry es i spot place at
