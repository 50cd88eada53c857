-- A store as a node is added.
use Rattle.std.proofs.Common.{◌≡◌, ℕ, ◌+◌, ◌<◌, Bool, false, List, [], ◌∷◌, ◌++◌, length, replicate, Option, None, Some, slice_get, refl, sym, ap, subst, ◌∙◌, arith}
use Rattle.std.proofs.lemmas.List.{map_push, length_push}
use Rattle.indexmap.specs.IndexMap.{IndexMap, insert_entry}
use Rattle.indexmap.proofs.CallerLemmas.{insert_entry-new}
use Rattle.cha_board.specs.Board.{Board, IsValid}
use Rattle.node_store.specs.declared.spot.Spot.{Spot}
use Rattle.node_store.specs.declared.origin.Origin.{Origin}
use Rattle.node_store.specs.declared.origin.NodeMark.{NodeMark}
use Rattle.node_store.specs.NameLists.{list_at, Has, AreBelow, put}
use Rattle.node_store.specs.Nodes.{Node, leaves, IsNew, IsReached}
use Rattle.node_store.specs.Graphs.{IsStore}
use Rattle.node_store.specs.Places.{node_of, nodes_of, AreStored}
use Rattle.node_store.proofs.Keying.{same_spot, new_unfound}
use Rattle.node_store.proofs.Pushing.{map_push_at}
use Rattle.node_store.proofs.Storing.{store_push, store_put, store_new, waits_within}

-- the entry of a position
abbrev pub entry_of : Board → Option Origin → Bool → Spot × NodeMark
entry_of q origin leaf = (record { position = q }, record { origin = origin; leaf = leaf })

-- a new position goes last
pub entries_push : {S : Type 0} (m : IndexMap Spot NodeMark S) (waiting : List (List ℕ)) (slots : ℕ) (q : Board) (place : NodeMark) (more : List (Spot × NodeMark)) → AreStored m.entries waiting slots → IsValid q → IsNew (nodes_of m.entries) q
    → more ≡ insert_entry same_spot m.entries (record { position = q }) place → more ≡ m.entries ++ (record { position = q }, place) ∷ []
entries_push m waiting slots q place more was sound new is =
    is ∙ insert_entry-new same_spot m (record { position = q }) place (new_unfound m.entries q was.store.valid sound new)

pub nodes_push : (es more : List (Spot × NodeMark)) (e : Spot × NodeMark) → more ≡ es ++ e ∷ [] → nodes_of more ≡ nodes_of es ++ node_of e ∷ []
nodes_push es more e is = ap nodes_of is ∙ map_push node_of es e

pub stored_push : (es more : List (Spot × NodeMark)) (waiting lists : List (List ℕ)) (slots named : ℕ) (q : Board) (o : Origin) (leaf : Bool) → AreStored es waiting slots
    → more ≡ es ++ entry_of q (Some o) leaf ∷ [] → lists ≡ waiting → named ≡ slots + 1 → IsNew (nodes_of es) q → IsReached (nodes_of es) o.parent o.by q → IsValid q → length (nodes_of es) < 4294967295 → AreStored more lists named
stored_push es more waiting lists slots named q o leaf was is same count new reached sound few =
    let size : length more ≡ length es + 1 = ap length is ∙ length_push es (entry_of q (Some o) leaf) in
    let slots_are = was.slots in
    record {
      store = subst (IsStore (nodes_of more)) (sym same)
          (subst (λ (ns : List Node). IsStore ns waiting) (sym (nodes_push es more (entry_of q (Some o) leaf) is))
          (store_push (nodes_of es) waiting was.store (node_of (entry_of q (Some o) leaf)) o new reached refl sound few));
      slots = omega arith;
    }

-- the name of the node that was added last is above all that wait, and waits nowhere
pub above_all : (nodes : List Node) (waiting : List (List ℕ)) (name b : ℕ) → IsStore nodes waiting → name ≡ length nodes → AreBelow (list_at waiting b) name
above_all nodes waiting name b was is n h = let within : n < length nodes = waits_within nodes waiting was b n h in omega arith

pub fresh : (nodes : List Node) (waiting : List (List ℕ)) (name : ℕ) → IsStore nodes waiting → name ≡ length nodes → (b : ℕ) → Has (list_at waiting b) name → ⊥
fresh nodes waiting name was is b h = let within : name < length nodes = waits_within nodes waiting was b name h in omega arith

-- and so may wait
pub stored_put : (nodes : List Node) (waiting : List (List ℕ)) (es : List (Spot × NodeMark)) (lists later : List (List ℕ)) (slots named b name : ℕ) (n : Node) → IsStore nodes waiting → AreStored es lists slots
    → nodes_of es ≡ nodes ++ n ∷ [] → n.leaf ≡ false → lists ≡ waiting → name ≡ length nodes → later ≡ put lists b name → named ≡ slots → AreStored es later named
stored_put nodes waiting es lists later slots named b name n old was is inner same last put_is named_is =
    let at : slice_get (leaves (nodes_of es)) name ≡ Some false =
    ap (λ (k : ℕ). slice_get (leaves (nodes_of es)) k) last ∙ ap (λ (ns : List Node). slice_get (leaves ns) (length nodes)) is ∙ map_push_at (λ (m : Node). m.leaf) nodes n ∙ ap Some inner in
    record {
      store = subst (IsStore (nodes_of es)) (sym put_is) (store_put (nodes_of es) lists was.store b name at
          (subst (λ (ls : List (List ℕ)). (k : ℕ) → Has (list_at ls k) name → ⊥) (sym same) (fresh nodes waiting name old last))
          (subst (λ (ls : List (List ℕ)). AreBelow (list_at ls b) name) (sym same) (above_all nodes waiting name b old last)));
      slots = named_is ∙ was.slots;
    }

-- a store of its root alone
pub stored_new : (es : List (Spot × NodeMark)) (lists later : List (List ℕ)) (name named : ℕ) (q : Board) → es ≡ entry_of q None false ∷ [] → lists ≡ replicate 64 [] → name ≡ 0 → later ≡ put lists 0 name → named ≡ 1 → IsValid q → AreStored es later named
stored_new es lists later name named q is empty first put_is count sound =
    let size : length es ≡ 1 = ap length is in
    record {
      store = subst (IsStore (nodes_of es)) (sym (put_is ∙ (λ i. put (empty i) 0 (first i))))
          (subst (λ (xs : List (Spot × NodeMark)). IsStore (nodes_of xs) (put (replicate 64 []) 0 0)) (sym is) (store_new (node_of (entry_of q None false)) sound refl refl));
      slots = omega arith;
    }
