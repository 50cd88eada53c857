-- Whether the node that was taken is a leaf.
use Rattle.std.proofs.Common.{◌≡◌, ℕ, List, Option, None, Some, IsTrue, slice_get, sym, subst, ◌∙◌}
use Rattle.std.specs.Option.{IfSome, IfNone, MatchOption}
use Rattle.std.proofs.lemmas.Option.{same_Some}
use Rattle.cha_board.specs.declared.men.Color.{Color}
use Rattle.cha_board.specs.Board.{Board}
use Rattle.cha_moves.specs.Moves.{is_zeroing}
use Rattle.mob_law.specs.Closed.{IsClosed}
use Rattle.mob_law.specs.Threats.{HasNoMate}
use Rattle.mob_law.specs.Static.{IsStaticallyUnwinnable}
use Rattle.mob_sets.specs.Rows.{SetRows, sets_of}
use Rattle.mob_small.specs.declared.reasons.Reason.{Reason}
use Rattle.mob_small.specs.Reasons.{ReasonHolds}
use Rattle.cha_cert.specs.declared.nodes.Part.TheVariants.{Leaf, Men}
use Rattle.cha_cert.specs.AtOnce.{IsShownAtOnce, BySets, ByMen}
use Rattle.cha_cert.specs.Certificates.{LeafHolds, IsLeaf}
use Rattle.node_store.specs.declared.origin.Origin.{Origin}
use Rattle.node_store.specs.Nodes.{Node, origins, IsAt}
use Rattle.forced_graph.specs.Regions.{IsLeafPart, IsUnshown}

-- the root came by no move
pub open_root : (nodes : List Node) (name : ℕ) (w : Color) → slice_get (origins nodes) name ≡ Some None → IsUnshown nodes name w
unfolding IsUnshown
open_root nodes name w none o p q from parent here zeroing shown = cc

-- the move was neither a capture nor a pawn's
pub open_quiet : (nodes : List Node) (name : ℕ) (w : Color) (o : Origin) (p : Board) → slice_get (origins nodes) name ≡ Some (Some o) → IsAt nodes o.parent p → (IsTrue (is_zeroing p o.by) → ⊥) → IsUnshown nodes name w
unfolding IsUnshown
open_quiet nodes name w o p from at quiet o2 p2 q from2 at2 here zeroing shown =
    let o_is : o2 ≡ o = same_Some o2 o (same_Some (Some o2) (Some o) (sym from2 ∙ from)) in
    let p_at : IsAt nodes o.parent p2 = subst (λ (x : Origin). IsAt nodes x.parent p2) o_is at2 in
    let p_is : p2 ≡ p = same_Some p2 p (sym p_at ∙ at) in
    quiet (subst (λ (b : Board). IsTrue (is_zeroing b o.by)) p_is (subst (λ (x : Origin). IsTrue (is_zeroing p2 x.by)) o_is zeroing))

shown_not : (q : Board) (w : Color) → (IsStaticallyUnwinnable q w → ⊥) → ((reason : Reason) → ReasonHolds q w reason → ⊥) → IsShownAtOnce q w → ⊥
shown_not q w sets men (BySets s) = sets s
shown_not q w sets men (ByMen reason holds) = men reason holds

-- no closed sets are without a mate, and the men alone show nothing
pub open_unshown : (nodes : List Node) (name : ℕ) (w : Color) (q : Board) (verdict : Option SetRows) → IsAt nodes name q → verdict ≡ None → IfNone verdict (IsStaticallyUnwinnable q w → ⊥) → ((reason : Reason) → ReasonHolds q w reason → ⊥) → IsUnshown nodes name w
unfolding IsUnshown
open_unshown nodes name w q (Some sets) at none unshown men o p q2 from parent here zeroing shown = cc
open_unshown nodes name w q None at none unshown men o p q2 from parent here zeroing shown =
    shown_not q w unshown men (subst (λ (b : Board). IsShownAtOnce b w) (same_Some q2 q (sym here ∙ at)) shown)

-- some are
pub leaf_shown : (nodes : List Node) (name : ℕ) (w : Color) (q : Board) (verdict : Option SetRows) (sets : SetRows) → IsAt nodes name q → verdict ≡ Some sets → IfSome verdict (λ s. IsClosed q (sets_of s)) → IfSome verdict (λ s. HasNoMate q (sets_of s) w) → IsLeafPart nodes name w (Leaf sets)
unfolding IsLeafPart IsLeaf
leaf_shown nodes name w q None sets at some closed no_mate q2 here = cc
leaf_shown nodes name w q (Some s) sets at some closed no_mate q2 here =
    let holds : LeafHolds w q s = record { closed = closed; no_mate = no_mate } in
    subst (λ (b : Board). LeafHolds w b sets) (same_Some q q2 (sym at ∙ here)) (subst (LeafHolds w q) (same_Some s sets some) holds)

-- or the men alone show it
pub leaf_men : (nodes : List Node) (name : ℕ) (w : Color) (q : Board) (found : Option Reason) (reason : Reason) → IsAt nodes name q → found ≡ Some reason → MatchOption found ((reason : Reason) → ReasonHolds q w reason → ⊥) (λ reason. ReasonHolds q w reason)
    → IsLeafPart nodes name w (Men reason)
unfolding IsLeafPart IsLeaf
leaf_men nodes name w q None reason at some holds q2 here = cc
leaf_men nodes name w q (Some r) reason at some holds q2 here =
    subst (λ (b : Board). ReasonHolds b w reason) (same_Some q q2 (sym at ∙ here)) (subst (λ (x : Reason). ReasonHolds q w x) (same_Some r reason some) holds)
