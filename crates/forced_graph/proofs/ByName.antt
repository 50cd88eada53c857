-- The nodes of an exploration by their names, as one is added or becomes a leaf.
use Rattle.std.proofs.Common.{◌≡◌, ℕ, zero, suc, ◌<◌, ◌⊎◌, inl, inr, List, [], ◌∷◌, ◌++◌, length, Option, Some, slice_get, set, refl, sym, ap, subst, arith}
use Rattle.std.specs.List.{Contains}
use Rattle.std.proofs.lemmas.Option.{same_Some, slice_get_read}
use Rattle.std.proofs.lemmas.List.Elements.{Contains-append_left}
use Rattle.cha_board.specs.Board.{Board}
use Rattle.cha_moves.proofs.Contained.{Contains-cons_here, Contains-cons_there}
use Rattle.node_store.specs.declared.origin.Origin.{Origin}
use Rattle.node_store.specs.Nodes.{Node, positions, origins, mark}

-- what stands at a place is contained
pub get_contained : {X : Type 0} (xs : List X) (i : ℕ) (x : X) → slice_get xs i ≡ Some x → Contains xs x
get_contained [] i x at = cc
get_contained (y ∷ ys) zero x at = Contains-cons_here y ys x (same_Some y x at)
get_contained (y ∷ ys) (suc i) x at = Contains-cons_there y ys x (get_contained ys i x at)

-- and what is contained stands at a place
pub contained_get : {X : Type 0} (xs : List X) (x : X) → Contains xs x → (i : ℕ) × (i < length xs) × (slice_get xs i ≡ Some x)
contained_get xs x there = (there.0, there.1, slice_get_read xs (length xs) there.0 x refl there.1 (sym there.2))

-- an element that was replaced, and the others
pub get_set : {X : Type 0} (xs : List X) (k : ℕ) (y : X) (i : ℕ) (z : X) → slice_get (set xs k y) i ≡ Some z → ((i ≡ k) × (y ≡ z)) ⊎ ((i ≡ k → ⊥) × (slice_get xs i ≡ Some z))
get_set [] k y i z at = cc
get_set (x ∷ xs) zero y zero z at = inl (refl, same_Some y z at)
get_set (x ∷ xs) zero y (suc i) z at = inr ((λ e. cc), at)
get_set (x ∷ xs) (suc k) y zero z at = inr ((λ e. cc), at)
get_set (x ∷ xs) (suc k) y (suc i) z at = elim (get_set xs k y i z at) [
  | inl here ↦ inl (ap suc here.0, here.1)
  | inr there ↦ inr ((λ e. there.0 (omega (arith, e))), there.1)
]

-- a mark changes neither positions nor where they came from
pub same_origins : (nodes : List Node) (name : ℕ) → origins (mark nodes name) ≡ origins nodes
unfolding mark
same_origins [] name = refl
same_origins (n ∷ ns) zero = refl
same_origins (n ∷ ns) (suc name) = ap (λ (os : List (Option Origin)). n.origin ∷ os) (same_origins ns name)

-- a node more
pub positions_more : (ns ms : List Node) → positions (ns ++ ms) ≡ positions ns ++ positions ms
positions_more [] ms = refl
positions_more (n ∷ ns) ms = ap (λ (ps : List Board). n.position ∷ ps) (positions_more ns ms)

pub contained_more : (ns ms : List Node) (q : Board) → Contains (positions ns) q → Contains (positions (ns ++ ms)) q
contained_more ns ms q there =
    subst (λ (ps : List Board). Contains ps q) (sym (positions_more ns ms)) (Contains-append_left (positions ns) (positions ms) q there)

pub length_positions : (ns : List Node) → length (positions ns) ≡ length ns
length_positions [] = refl
length_positions (n ∷ ns) = ap suc (length_positions ns)
